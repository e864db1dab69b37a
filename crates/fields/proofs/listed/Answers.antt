use Rattle.std.proofs.Common.{arith, ◌/◌, length}
use Rattle.std.proofs.lemmas.Grind.{common_steps}
use Rattle.fields.specs.Laws.{in_fours}
use Rattle.fields.proofs.listed.Goals as goal

pub loop-four-preserved : goal.loop-four-preserved
loop-four-preserved c = grind (arith, common_steps)

pub returns-then-one_of_four : goal.returns-then-one_of_four
returns-then-one_of_four c =
    let list = c.args.list.now in
    rw (← in_fours (length list / 8) list c.args.a c.args.b, ← c.as_chunks.ensures.front) (grind (arith, common_steps))

pub returns : goal.returns
returns c =
    let a = c.args in
    rw (← in_fours (length a.list.now / 8) a.list.now a.a a.b, ← c.as_chunks.ensures.front) (grind (arith, common_steps))
