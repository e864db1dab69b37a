use Rattle.m8.specs.Course.{FiledSoFar}
use Rattle.m8.proofs.payments.Given as goal

-- The records of the payments before this one are written.
abbrev pub invariant-loop-t : goal.invariant-loop-t
invariant-loop-t l = FiledSoFar l.terms.page l.file l.terms.transfer.now l.terms.cheque.now l.codes l.initial.out l.t-index l.at l.out
