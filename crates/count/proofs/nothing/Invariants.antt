use Rattle.std.proofs.Common.{◌+◌, ◌*◌}
use Rattle.count.specs.Counting.{Counted}
use Rattle.count.proofs.nothing.Given as goal

-- So far no record before this one has a change.
abbrev pub invariant-loop-t : goal.invariant-loop-t
invariant-loop-t l = Counted l.file 0 (256 + 768 * l.t-index)
