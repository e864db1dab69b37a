use Rattle.std.proofs.Common.{◌≡◌, false, take}
use Rattle.std.specs.List.{list_any}
use Rattle.fields.specs.Lists.{is_listed}
use Rattle.fields.proofs.listed.Given as goal

-- none of the fours so far
abbrev pub invariant-loop-four : goal.invariant-loop-four
invariant-loop-four l = list_any (λ four. is_listed four l.a l.b) (take l.four-index l.fours) ≡ false
