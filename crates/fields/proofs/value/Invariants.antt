use Rattle.std.proofs.Common.{◌≡◌, take}
use Rattle.fields.specs.Number.{dec}
use Rattle.fields.proofs.value.Given as goal

abbrev pub invariant-loop-b : goal.invariant-loop-b
invariant-loop-b l = l.v ≡ dec (take l.b-index l.s)
