use Rattle.desk.specs.Input.{Reads}
use Rattle.desk.proofs.read_input.Given as goal

abbrev pub invariant-loop-left : goal.invariant-loop-left
invariant-loop-left g l = Reads l.reader

abbrev pub decreases-loop-left : goal.decreases-loop-left
decreases-loop-left g l = l.left
