use Rattle.std.proofs.Common.{◌≡◌, List, ◌++◌}
use Rattle.charset.specs.Table.{rep}
use Rattle.records.specs.declared.Span.{Span}
use Rattle.forwarding.specs.Text.{lies}
use Rattle.forwarding.specs.Forwarded.{fwd}
use Rattle.forwarding.specs.Fields.{field_notes}
use Rattle.forwarding.specs.Numbered.{texts_from}
use Rattle.forwarding.specs.Noted.{Noted}
use Rattle.place.proofs.some_fields.Given as goal

-- So far the fields from the first up to below k are noted and replaced.
abbrev pub invariant-loop-k : goal.invariant-loop-k
invariant-loop-k l = record {
  output : (ss : List Span) → l.initial.part ≡ fwd (rep l.page) (lies ss) 0 l.rec
      → l.part ≡ fwd (rep l.page) (lies (ss ++ texts_from l.fn.numbers.start l.k)) 0 l.rec;
  noted : Noted (field_notes (texts_from l.fn.numbers.start l.k) l.at l.rec) l.have l.initial.notes l.notes l.n;
}
