use Rattle.std.proofs.Common.{rules, arith}
use Rattle.forwarding.specs.Noted.{one_fits, one_noted}
use Rattle.note.proofs.characters.Goals as goal

pub character-n-requires : goal.character-n-requires
character-n-requires c =
    let a = c.args in
    let l = c.loop-i in
    (search rules, omega (arith, c.requires.1, l.auto.notes, l.invariant.next_is, one_fits a.place l.i a.s.now c.loop-i-test.true))

pub loop-i-preserved : goal.loop-i-preserved
loop-i-preserved c =
    let l = c.loop-i in
    one_noted c.args.place l.i c.args.s.now c.loop-i-test.true c.requires.1 l.invariant c.character-n.ensures
