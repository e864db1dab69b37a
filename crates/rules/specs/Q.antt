-- Document 01, rules 10 to 16 (RULES 6.1): the Q record.
use Rattle.std.specs.Prelude.{ℕ, Bool, ◌&&◌, not, List, [], ◌∷◌}
use Rattle.laws.specs.Ascii.{ascii}
use Rattle.records.specs.Places.{◌to◌, part, q_place}
use Rattle.records.specs.declared.QField.{QField}
use Rattle.records.specs.declared.QField.TheVariants.{Q3, Q4, Q5, Q6, Q7, Q8, Q9, Q10, Q11, Q12}
use Rattle.fields.specs.Class.{all_of, same}
use Rattle.fields.specs.Number.{is_date}
use Rattle.fields.specs.declared.Class.TheVariants.{Digit, Zero, Space}
use Rattle.rules.specs.Wrong.{Fields, first_wrong, line_blank}

-- the bytes of a field, and its offset beside whether it is as it should be
abbrev pub in_q : QField → List ℕ → List ℕ
in_q f rec = part (q_place f) rec

abbrev pub q : QField → Bool → ℕ × Bool
q f right = ((q_place f).start, right)

-- 10: Q3 is not 50400042
abbrev pub fields10 : List ℕ → Fields
fields10 rec = q Q3 (same (in_q Q3 rec) (ascii "50400042")) ∷ []

unfoldable pub rule10 : List ℕ → ℕ
rule10 rec = first_wrong (fields10 rec)

-- 11: Q4 is not eight zeros and two digits
abbrev pub fields11 : List ℕ → Fields
fields11 rec = q Q4 (all_of Zero (part (0 to 7) (in_q Q4 rec)) && all_of Digit (part (8 to 9) (in_q Q4 rec))) ∷ []

unfoldable pub rule11 : List ℕ → ℕ
rule11 rec = first_wrong (fields11 rec)

-- 12: first line of Q5 blank
abbrev pub fields12 : ℕ → List ℕ → Fields
fields12 page rec = q Q5 (not (line_blank page rec (q_place Q5) 1)) ∷ []

unfoldable pub rule12 : ℕ → List ℕ → ℕ
rule12 page rec = first_wrong (fields12 page rec)

-- 13: Q6 is no date YYMMDD (years 2000 to 2099)
abbrev pub fields13 : List ℕ → Fields
fields13 rec = q Q6 (is_date (in_q Q6 rec)) ∷ []

unfoldable pub rule13 : List ℕ → ℕ
rule13 rec = first_wrong (fields13 rec)

-- 14: a non-digit in Q7, Q8, Q10 or Q11
abbrev pub fields14 : List ℕ → Fields
fields14 rec =
    q Q7 (all_of Digit (in_q Q7 rec)) ∷ q Q8 (all_of Digit (in_q Q8 rec)) ∷ q Q10 (all_of Digit (in_q Q10 rec)) ∷ q Q11 (all_of Digit (in_q Q11 rec)) ∷ []

unfoldable pub rule14 : List ℕ → ℕ
rule14 rec = first_wrong (fields14 rec)

-- 15: Q9 is not N
abbrev pub fields15 : List ℕ → Fields
fields15 rec = q Q9 (same (in_q Q9 rec) (ascii "N")) ∷ []

unfoldable pub rule15 : List ℕ → ℕ
rule15 rec = first_wrong (fields15 rec)

-- 16: Q12 not all spaces
abbrev pub fields16 : List ℕ → Fields
fields16 rec = q Q12 (all_of Space (in_q Q12 rec)) ∷ []

unfoldable pub rule16 : List ℕ → ℕ
rule16 rec = first_wrong (fields16 rec)
