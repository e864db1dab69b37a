use Rattle.std.proofs.Common.{◌≡◌, length, take}
use Rattle.fields.specs.Class.{same}
use Rattle.fields.proofs.same.Given as goal

abbrev pub invariant-loop-i : goal.invariant-loop-i
invariant-loop-i l = (length l.s ≡ length l.want) × (l.ok ≡ same (take l.i l.s) (take l.i l.want))
