use Rattle.std.proofs.Common.{◌≡◌, ◌-◌, length, take, drop, arith, length-take, length-drop}
use Rattle.reader.specs.Eats.{rest_stopped, rest_held}
use Rattle.reader.proofs.Reader.rest.Goals as goal

pub returns-then-self-ne0 : goal.returns-then-self-ne0
returns-then-self-ne0 c = rest_stopped _ _ c.args.self _ _ c.whole_records-done.ensures c.if-self-ne0.true

pub returns : goal.returns
returns c =
    let cut = c.args.cut.now in
    let at = c.whole_records-done.result.at in
    let long : length (take (length cut - at) (drop at cut)) ≡ length cut - at = simp (length-take, length-drop) (omega arith) in
    rw long (rest_held _ _ c.args.self _ _ c.whole_records-done.ensures c.if-self-ne0.false c.hold-self.ensures)
