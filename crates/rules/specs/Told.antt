-- What a test of a field answers in code, and what a rule's answer is in document 01's numbers.
use Rattle.std.specs.Prelude.{ℕ, ◌≡◌, Bool, true, false, Result, Ok, Err}
use Rattle.records.specs.declared.Span.{Span}

-- nothing of a field that is as it should be, else the field
abbrev pub Told : {A F : Type 0} → F → Bool → Result A F → Type 0
Told f right (Ok _) = right ≡ true
Told f right (Err e) = (e ≡ f) × (right ≡ false)

-- 0, or the offset of the field
abbrev pub offset : {A F : Type 0} → (F → Span) → Result A F → ℕ
offset place (Ok _) = 0
offset place (Err f) = (place f).start
