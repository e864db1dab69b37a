use Rattle.std.proofs.Common.{arith, rules}
use Rattle.tally.specs.Settle.{steady_settle}
use Rattle.reader.specs.Eats.{width_le, eats_stopped, eats_held, eats_full}
use Rattle.reader.proofs.Reader.eat.Goals as goal

pub returns-then-self-ne0 : goal.returns-then-self-ne0
returns-then-self-ne0 c =
    eats_stopped _ _ _ c.args.self (search rules) (omega (arith, width_le c.args.self.tally.next)) _ c.if-self-ne0.true

pub returns-in_default : goal.returns-in_default
returns-in_default c =
    eats_held _ _ _ c.args.self (search rules) (omega (arith, width_le c.args.self.tally.next)) _ c.if-self-ne0.false
    (omega (arith, c.in_default.ensures.cases)) c.hold-self.ensures

pub rest-requires : goal.rest-requires
rest-requires c = rw c.across-first.ensures (steady_settle _ _ _ _ _ c.requires.0)

pub returns : goal.returns
returns c =
    let a = c.args in
    let r = a.self in
    let cut = c.in-Some.ensures.cases in
    eats_full _ _ _ r (search rules) (omega (arith, width_le r.tally.next)) _ c.if-self-ne0.false (omega arith) cut.0 (omega arith)
    (rw cut.1 at c.across-first.ensures)
    (rw cut.2 at c.rest.ensures)
