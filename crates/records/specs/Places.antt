-- Document 01, "Records" (RULES 2): where each record and each field stands.
-- Offsets count from 0 in the record, and a place is written as the paper writes it, first and last byte: `210 to 349`.
-- Laws: the fields of each kind follow one another without gap or overlap from 5 to the record's end, and the four lines
-- of a field of 140 bytes do so in it.
use Rattle.std.specs.Prelude.{ℕ, ◌+◌, ◌*◌, ◌-◌, ◌≡◌, Bool, ◌&&◌, cond, List, [], ◌∷◌, eqb, leb, T, take, drop}
use Rattle.records.specs.declared.Span.{Span}
use Rattle.records.specs.declared.QField.{QField}
use Rattle.records.specs.declared.QField.TheVariants.{Q3, Q4, Q5, Q6, Q7, Q8, Q9, Q10, Q11, Q12}
use Rattle.records.specs.declared.TField.{TField}
use Rattle.records.specs.declared.TField.TheVariants.{T3, T4a, T4b, T5, T6, T7a, T7b, T8, T9a, T9b, T10a, T10b, T11, T12, T13, T14a, T14b, T15, T16, T17, T18, T19, T20, T21, T22, T23, T24, T25, T26, T27}
use Rattle.records.specs.declared.ZField.{ZField}
use Rattle.records.specs.declared.ZField.TheVariants.{Z3, Z4, Z5}

infix 20 ◌to◌
abbrev pub ◌to◌ : ℕ → ℕ → Span
first to last = record { start = first; end = last + 1 }

-- Q is record 0; T records count from 1, and Z comes after the last
abbrev pub record_at : ℕ → ℕ
record_at k = cond (eqb k 0) 0 (256 + 768 * (k - 1))

abbrev pub q_place : QField → Span
q_place Q3 = 5 to 12
q_place Q4 = 13 to 22
q_place Q5 = 23 to 162
q_place Q6 = 163 to 168
q_place Q7 = 169 to 170
q_place Q8 = 171 to 176
q_place Q9 = 177 to 177
q_place Q10 = 178 to 179
q_place Q11 = 180 to 187
q_place Q12 = 188 to 255

abbrev pub t_place : TField → Span
t_place T3 = 5 to 12
t_place T4a = 13 to 15
t_place T4b = 16 to 25
t_place T5 = 26 to 31
t_place T6 = 32 to 39
t_place T7a = 40 to 42
t_place T7b = 43 to 52
t_place T8 = 53 to 63
t_place T9a = 64 to 66
t_place T9b = 67 to 206
t_place T10a = 207 to 209
t_place T10b = 210 to 349
t_place T11 = 350 to 419
t_place T12 = 420 to 454
t_place T13 = 455 to 457
t_place T14a = 458 to 471
t_place T14b = 472 to 474
t_place T15 = 475 to 614
t_place T16 = 615 to 616
t_place T17 = 617 to 618
t_place T18 = 619 to 620
t_place T19 = 621 to 622
t_place T20 = 623 to 647
t_place T21 = 648 to 649
t_place T22 = 650 to 651
t_place T23 = 652 to 678
t_place T24 = 679 to 713
t_place T25 = 714 to 714
t_place T26 = 715 to 765
t_place T27 = 766 to 767

abbrev pub z_place : ZField → Span
z_place Z3 = 5 to 19
z_place Z4 = 20 to 34
z_place Z5 = 35 to 255

-- line 1, 2, 3 or 4 of a field of four lines of 35
abbrev pub line_of : Span → ℕ → Span
line_of s k = record { start = s.start + 35 * (k - 1); end = s.start + 35 * k }

-- the bytes at a place
unfoldable pub part : Span → List ℕ → List ℕ
part s rec = take (s.end - s.start) (drop s.start rec)

-- "the very part of the caller's bytes" (RULES 9.6): memory is blocks, and a place in it is a block and an offset there.
-- Of bytes that begin at `from`, the part at s begins at `at`, and is those bytes
pub record PartOf (s : Span) (from : ℕ × ℕ) (bytes : List ℕ) (at : ℕ × ℕ) (xs : List ℕ) : Type 0 where
  pub there : at ≡ (from.0, s.start + from.1)
  pub holds : xs ≡ part s bytes

-- "Text fields, numbered for display" (RULES 2.5): each with its number; a record has no other
abbrev pub nowhere : Span
nowhere = record { start = 0; end = 0 }

abbrev pub numbered : List (ℕ × Span) → ℕ → Span
numbered [] k = nowhere
numbered (row ∷ rows) k = cond (eqb k row.0) row.1 (numbered rows k)

abbrev pub q_text : ℕ → Span
q_text = numbered ((1, q_place Q5) ∷ [])

abbrev pub t_text : ℕ → Span
t_text =
    numbered
    ((2, t_place T8) ∷ (3, t_place T9b) ∷ (4, t_place T10b) ∷ (5, t_place T12) ∷ (6, t_place T15) ∷ (7, t_place T20) ∷ (8, t_place T23)
    ∷ (9, t_place T24) ∷ [])

-- the places follow one another from the first offset to the second
abbrev pub tile : ℕ → ℕ → List Span → Bool
tile first end [] = eqb first end
tile first end (s ∷ ss) = eqb s.start first && leb first s.end && tile s.end end ss

abbrev q_fields : List Span
q_fields =
    q_place Q3 ∷ q_place Q4 ∷ q_place Q5 ∷ q_place Q6 ∷ q_place Q7 ∷ q_place Q8 ∷ q_place Q9 ∷ q_place Q10
    ∷ q_place Q11 ∷ q_place Q12 ∷ []

abbrev t_fields : List Span
t_fields =
    t_place T3 ∷ t_place T4a ∷ t_place T4b ∷ t_place T5 ∷ t_place T6 ∷ t_place T7a ∷ t_place T7b ∷ t_place T8
    ∷ t_place T9a ∷ t_place T9b ∷ t_place T10a ∷ t_place T10b ∷ t_place T11 ∷ t_place T12 ∷ t_place T13 ∷ t_place T14a
    ∷ t_place T14b ∷ t_place T15 ∷ t_place T16 ∷ t_place T17 ∷ t_place T18 ∷ t_place T19 ∷ t_place T20 ∷ t_place T21
    ∷ t_place T22 ∷ t_place T23 ∷ t_place T24 ∷ t_place T25 ∷ t_place T26 ∷ t_place T27 ∷ []

abbrev z_fields : List Span
z_fields =
    z_place Z3 ∷ z_place Z4 ∷ z_place Z5 ∷ []

abbrev lines : Span → List Span
lines s = line_of s 1 ∷ line_of s 2 ∷ line_of s 3 ∷ line_of s 4 ∷ []

abbrev lined : Span → Bool
lined s = tile s.start s.end (lines s)

pub no_gap_no_overlap : T
    (tile 5 256 q_fields && tile 5 768 t_fields && tile 5 256 z_fields
    && lined (q_place Q5) && lined (t_place T9b) && lined (t_place T10b) && lined (t_place T15))
no_gap_no_overlap = tt
