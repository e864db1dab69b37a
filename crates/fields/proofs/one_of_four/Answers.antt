use Rattle.std.proofs.Common.{arith}
use Rattle.std.proofs.lemmas.Grind.{common_steps}
use Rattle.fields.specs.Laws.{in_pairs}
use Rattle.fields.proofs.one_of_four.Goals as goal

-- the pairs of the four
pub returns : goal.returns
returns c = grind (arith, common_steps, in_pairs)
