use Rattle.forwarding.specs.Turns.{turn}
use Rattle.note.specs.Noting.{NotedTo}
use Rattle.place.specs.Placing.{Placed}
use Rattle.place.proofs.payments.Given as goal

-- So far the T records before this one are placed, and their notes are put.
abbrev pub invariant-loop-k : goal.invariant-loop-k
invariant-loop-k l = record {
  placed : Placed l.page l.file l.initial.out l.out (turn l.k);
  noted : NotedTo l.file l.have l.initial.notes l.notes l.n (turn l.k);
}
