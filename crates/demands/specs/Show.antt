-- Document 01, "Show a field" (RULES 9.6): "from a file, a record number and a field number, the very part of the
-- caller's bytes. The part is empty exactly when the walk refuses, the record doesn't exist, or that record has no such
-- field."
use Rattle.std.specs.Prelude.{ℕ, ◌+◌, ◌≤◌, ◌≡◌, cond, List, [], ◌⊎◌, ◌↔◌, eqb, length}
use Prim.Native.Char.{code}
use Rattle.records.specs.Places.{record_at, part, q_text, t_text}
use Rattle.records.specs.declared.Span.{Span}
use Rattle.structure.specs.Slots.{slot_at}
use Rattle.structure.specs.Walk.{letter_of}
use Rattle.show.specs.Shown.{ShownAs}
use Rattle.host.specs.Answers.{PlacedAs}
use Rattle.host.specs.declared.Part.{Part}
use Rattle.demands.specs.Broken.{TooLong, Unfit, Due}

-- the walk does not refuse: none of rules 1 to 5 is broken
abbrev pub Walked : List ℕ → Type 0
Walked file = (m j i : ℕ) → TooLong file m j i ⊎ Unfit file m j i → ⊥

-- record k has text field f: 1 is in Q, 2 to 9 are in each T, and Z has none
abbrev pub Has : List ℕ → ℕ → ℕ → Type 0
Has file k f = ((k ≡ 0) × (f ≡ 1)) ⊎ ((letter_of (slot_at file k) ≡ code "T") × (2 ≤ f) × (f ≤ 9))

-- the walk does not refuse, comes to record k, and the field is there
abbrev pub There : List ℕ → ℕ → ℕ → Type 0
There file k f = Walked file × Due file k × Has file k f

abbrev pub EmptyExactly : Type 0
EmptyExactly =
    (from at : ℕ × ℕ) (file bytes : List ℕ) (k f : ℕ) → ShownAs from file k f at bytes → (bytes ≡ []) ↔ (There file k f → ⊥)

-- where text field f stands in record k
abbrev pub field_at : ℕ → ℕ → Span
field_at k f = cond (eqb k 0) (q_text f) (t_text f)

-- a field that is there: the part begins at the record's place and the field's, from where the file begins, and is the bytes
-- of that field of that record
abbrev pub ShowsTheField : Type 0
ShowsTheField =
    (from at : ℕ × ℕ) (file bytes : List ℕ) (k f : ℕ) → There file k f → ShownAs from file k f at bytes
    → (at ≡ (from.0, record_at k + (field_at k f).start + from.1)) × (bytes ≡ part (field_at k f) (slot_at file k))

-- hosts in C get the place that show hands out, and how long the part is
abbrev pub DeskShowsThePlace : Type 0
DeskShowsThePlace =
    (from at : ℕ × ℕ) (file bytes : List ℕ) (k f : ℕ) (answer : Part) → ShownAs from file k f at bytes → PlacedAs file k f answer
    → (at ≡ (from.0, answer.start + from.1)) × (length bytes ≡ answer.length)
