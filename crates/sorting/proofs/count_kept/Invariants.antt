use Rattle.sorting.specs.Counting.{CountedIn}
use Rattle.sorting.proofs.count_kept.Given as goal

-- The figures so far are those of the payments before this one.
abbrev pub invariant-loop-t : goal.invariant-loop-t
invariant-loop-t l = CountedIn l.terms.page l.file l.terms.transfer.now l.terms.cheque.now l.t-index l.sum
