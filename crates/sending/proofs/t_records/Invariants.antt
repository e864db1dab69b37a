use Rattle.sending.specs.Sending.{SentIn}
use Rattle.sending.proofs.t_records.Given as goal

-- The records before this one are sent.
abbrev pub invariant-loop-i : goal.invariant-loop-i
invariant-loop-i l =
    SentIn l.terms.page l.file l.terms.transfer.now l.terms.cheque.now l.have l.initial.out l.initial.notes l.initial.list l.i l.next l.out l.notes l.list
