use Rattle.std.proofs.Common.{◌+◌, ◌*◌}
use Rattle.count.specs.Counting.{Counted}
use Rattle.count.proofs.file.Given as goal

-- The count so far is that of the records before this one.
abbrev pub invariant-loop-t : goal.invariant-loop-t
invariant-loop-t l = Counted l.file l.n (256 + 768 * l.t-index)
