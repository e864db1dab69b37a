use Rattle.std.proofs.Common.{◌≡◌, take}
use Rattle.std.specs.List.{list_any}
use Rattle.fields.specs.Laws.{is_pair}
use Rattle.fields.proofs.one_of_four.Given as goal

abbrev pub invariant-loop-x : goal.invariant-loop-x
invariant-loop-x l = l.found ≡ list_any (is_pair l.a l.b) (take l.x-index l.x-items)
