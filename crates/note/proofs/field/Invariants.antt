use Rattle.forwarding.specs.Noted.{Noted}
use Rattle.note.specs.Blocks.{notes_before}
use Rattle.note.proofs.field.Given as goal

-- So far the notes of the turns before this one are put.
abbrev pub invariant-loop-k : goal.invariant-loop-k
invariant-loop-k l = Noted (notes_before l.place l.k l.n l.s) l.have l.initial.notes l.notes l.m
