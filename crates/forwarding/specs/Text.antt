-- Which places of a file are text. Document 01 (RULES 2.5): the text fields are Q5 of record 0, and T8, T9b, T10b, T12,
-- T15, T20, T23 and T24 of each T record; Z has none.
use Rattle.std.specs.Prelude.{ℕ, ◌+◌, ◌-◌, ◌%◌, Bool, false, ◌&&◌, ◌||◌, cond, List, [], ◌∷◌, leb, ltb}
use Rattle.records.specs.Places.{q_text, t_text}
use Rattle.records.specs.declared.Span.{Span}

abbrev pub q_texts : List Span
q_texts = q_text 1 ∷ []

abbrev pub t_texts : List Span
t_texts = t_text 2 ∷ t_text 3 ∷ t_text 4 ∷ t_text 5 ∷ t_text 6 ∷ t_text 7 ∷ t_text 8 ∷ t_text 9 ∷ []

-- offset i lies in one of the places
abbrev pub lies : List Span → ℕ → Bool
lies [] i = false
lies (s ∷ ss) i = (leb s.start i && ltb i s.end) || lies ss i

-- the text places of a file that never ends: Q, and then T records of 768 bytes
unfoldable pub textual : ℕ → Bool
textual i = cond (ltb i 256) (lies q_texts i) (lies t_texts ((i - 256) % 768))

-- those of a file of n bytes, whose last 256 are Z
unfoldable pub text_at : ℕ → ℕ → Bool
text_at n i = ltb (i + 256) n && textual i
