use Rattle.forwarding.specs.Noted.{Noted, first_notes}
use Rattle.note.proofs.characters.Given as goal

-- So far the notes of the first i characters are put.
abbrev pub invariant-loop-i : goal.invariant-loop-i
invariant-loop-i l = Noted (first_notes l.place l.i l.s) l.have l.initial.notes l.notes l.n
