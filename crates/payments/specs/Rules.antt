-- Document 01, rules 20 to 35 (RULES 6.2): a T record. Rules that speak of transfers or of cheques say nothing for any
-- other T22.
use Rattle.std.specs.Prelude.{ℕ, Bool, ◌&&◌, ◌||◌, not, cond, List, [], ◌∷◌, eqb, get_or}
use Prim.Native.Char.{code}
use Rattle.laws.specs.Ascii.{ascii}
use Rattle.charset.specs.Table.{rep}
use Rattle.records.specs.Places.{◌to◌, part, t_place}
use Rattle.records.specs.declared.TField.{TField}
use Rattle.records.specs.declared.TField.TheVariants.{T3, T4a, T4b, T5, T6, T7a, T7b, T8, T9a, T9b, T10a, T10b, T11, T12, T13, T14a, T14b, T16, T17, T18, T19, T21, T22, T25, T26, T27}
use Rattle.fields.specs.Class.{all_of, blank, same}
use Rattle.fields.specs.Bic.{bic_shape}
use Rattle.fields.specs.Lists.{is_listed}
use Rattle.fields.specs.declared.Class.TheVariants.{Digit, Zero, Space, Capital}
use Rattle.rules.specs.Wrong.{Fields, first_wrong, line_blank}

-- the bytes of a field, and its offset beside whether it is as it should be
abbrev pub in_t : TField → List ℕ → List ℕ
in_t f rec = part (t_place f) rec

abbrev pub t : TField → Bool → ℕ × Bool
t f right = ((t_place f).start, right)

-- 20: a non-digit in T3 or T4b, or T4a not EUR
abbrev pub fields20 : List ℕ → Fields
fields20 rec =
    t T3 (all_of Digit (in_t T3 rec)) ∷ t T4a (same (in_t T4a rec) (ascii "EUR")) ∷ t T4b (all_of Digit (in_t T4b rec)) ∷ []

unfoldable pub rule20 : List ℕ → ℕ
rule20 rec = first_wrong (fields20 rec)

-- the part of record 1 that holds T3 and T4b, handed in as a key, and these two in it: `key_t3_is`, `key_t4b_is` of Key
abbrev pub key_of : List ℕ → List ℕ
key_of first = part (5 to 25) first

abbrev pub key_t3 : List ℕ → List ℕ
key_t3 key = part (0 to 7) key

abbrev pub key_t4b : List ℕ → List ℕ
key_t4b key = part (11 to 20) key

-- 21: T3 or T4b differs from record 1
abbrev pub fields21 : List ℕ → List ℕ → Fields
fields21 key rec = t T3 (same (in_t T3 rec) (key_t3 key)) ∷ t T4b (same (in_t T4b rec) (key_t4b key)) ∷ []

unfoldable pub rule21 : List ℕ → List ℕ → ℕ
rule21 key rec = first_wrong (fields21 key rec)

-- 22: T5, T6 or T7b not all zeros, or T7a not spaces
abbrev pub fields22 : List ℕ → Fields
fields22 rec =
    t T5 (all_of Zero (in_t T5 rec)) ∷ t T6 (all_of Zero (in_t T6 rec)) ∷ t T7a (all_of Space (in_t T7a rec)) ∷ t T7b (all_of Zero (in_t T7b rec)) ∷ []

unfoldable pub rule22 : List ℕ → ℕ
rule22 rec = first_wrong (fields22 rec)

-- 23: T22 is not 00 (transfer), 20 or 22 (cheques)
unfoldable pub is_transfer : List ℕ → Bool
is_transfer rec = same (in_t T22 rec) (ascii "00")

unfoldable pub is_cheque : List ℕ → Bool
is_cheque rec = same (in_t T22 rec) (ascii "20") || same (in_t T22 rec) (ascii "22")

abbrev pub fields23 : List ℕ → Fields
fields23 rec = t T22 (is_transfer rec || is_cheque rec) ∷ []

unfoldable pub rule23 : List ℕ → ℕ
rule23 rec = first_wrong (fields23 rec)

-- 24: T21 not 00, 01 or 02; for a cheque, not 00
abbrev pub fields24 : List ℕ → Fields
fields24 rec =
    t T21 (same (in_t T21 rec) (ascii "00") || (not (is_cheque rec) && (same (in_t T21 rec) (ascii "01") || same (in_t T21 rec) (ascii "02")))) ∷ []

unfoldable pub rule24 : List ℕ → ℕ
rule24 rec = first_wrong (fields24 rec)

-- 25: cheque: T8 or T9b not blank, or T9a not spaces
abbrev pub fields25 : ℕ → List ℕ → Fields
fields25 page rec = t T8 (blank page (in_t T8 rec)) ∷ t T9a (all_of Space (in_t T9a rec)) ∷ t T9b (blank page (in_t T9b rec)) ∷ []

unfoldable pub rule25 : ℕ → List ℕ → ℕ
rule25 page rec = cond (is_cheque rec) (first_wrong (fields25 page rec)) 0

-- a country of a list and a space; two capitals and a space
unfoldable pub is_country : List ℕ → List ℕ → Bool
is_country list s = is_listed list (get_or s 0 0) (get_or s 1 0) && eqb (get_or s 2 0) (code " ")

unfoldable pub is_two_capitals : List ℕ → Bool
is_two_capitals s = all_of Capital (part (0 to 1) s) && all_of Space (part (2 to 2) s)

unfoldable pub has_bic : ℕ → List ℕ → Bool
has_bic page rec = bic_shape page (in_t T8 rec)

-- 26: transfer: T9a wrong. With a BIC shape in T8, three spaces or two capitals and a space; without it, a country of the
-- transfer list and a space
abbrev pub fields26 : ℕ → List ℕ → List ℕ → Fields
fields26 page transfer rec =
    t T9a (cond (has_bic page rec) (all_of Space (in_t T9a rec) || is_two_capitals (in_t T9a rec)) (is_country transfer (in_t T9a rec))) ∷ []

unfoldable pub rule26 : ℕ → List ℕ → List ℕ → ℕ
rule26 page transfer rec = cond (is_transfer rec) (first_wrong (fields26 page transfer rec)) 0

-- 27: transfer: T8 has no BIC shape and T9b is blank
abbrev pub fields27 : ℕ → List ℕ → Fields
fields27 page rec = t T9b (has_bic page rec || not (blank page (in_t T9b rec))) ∷ []

unfoldable pub rule27 : ℕ → List ℕ → ℕ
rule27 page rec = cond (is_transfer rec) (first_wrong (fields27 page rec)) 0

-- 28: T10a not a listed country (transfer list or cheque list, by T22) and a space
abbrev pub fields28 : List ℕ → List ℕ → Fields
fields28 list rec = t T10a (is_country list (in_t T10a rec)) ∷ []

unfoldable pub rule28 : List ℕ → List ℕ → List ℕ → ℕ
rule28 transfer cheque rec =
    cond (is_transfer rec) (first_wrong (fields28 transfer rec)) (cond (is_cheque rec) (first_wrong (fields28 cheque rec)) 0)

-- 29: first line of T10b blank; for a cheque, also line 3 or line 4 blank
abbrev pub fields29 : ℕ → List ℕ → Fields
fields29 page rec =
    t T10b (not (line_blank page rec (t_place T10b) 1))
    ∷ t T10b (not (is_cheque rec && (line_blank page rec (t_place T10b) 3 || line_blank page rec (t_place T10b) 4)))
    ∷ []

unfoldable pub rule29 : ℕ → List ℕ → ℕ
rule29 page rec = first_wrong (fields29 page rec)

-- 30: T11 not all spaces
abbrev pub fields30 : List ℕ → Fields
fields30 rec = t T11 (all_of Space (in_t T11 rec)) ∷ []

unfoldable pub rule30 : List ℕ → ℕ
rule30 rec = first_wrong (fields30 rec)

-- 31: transfer: T12 does not begin with / and a non-space; cheque: T12 not blank
abbrev pub transfers31 : ℕ → List ℕ → Fields
transfers31 page rec =
    t T12 (eqb (rep page (get_or (in_t T12 rec) 0 0)) (code "/") && not (eqb (rep page (get_or (in_t T12 rec) 1 0)) (code " "))) ∷ []

abbrev pub cheques31 : ℕ → List ℕ → Fields
cheques31 page rec = t T12 (blank page (in_t T12 rec)) ∷ []

unfoldable pub rule31 : ℕ → List ℕ → ℕ
rule31 page rec =
    cond (is_transfer rec) (first_wrong (transfers31 page rec)) (cond (is_cheque rec) (first_wrong (cheques31 page rec)) 0)

-- 32: T13 not EUR
abbrev pub fields32 : List ℕ → Fields
fields32 rec = t T13 (same (in_t T13 rec) (ascii "EUR")) ∷ []

unfoldable pub rule32 : List ℕ → ℕ
rule32 rec = first_wrong (fields32 rec)

-- 33: a non-digit in T14a or T14b, last digit of T14b not 0, or amount zero (T14a and the first two digits of T14b all
-- zeros). Document 02, A1: T14a when it has a non-digit, or when both are all digits and the amount is zero; else T14b
abbrev pub fields33 : List ℕ → Fields
fields33 rec =
    t T14a (all_of Digit (in_t T14a rec))
    ∷ t T14b (all_of Digit (in_t T14b rec))
    ∷ t T14a (not (all_of Zero (in_t T14a rec) && all_of Zero (part (0 to 1) (in_t T14b rec))))
    ∷ t T14b (eqb (get_or (in_t T14b rec) 2 0) (code "0"))
    ∷ []

unfoldable pub rule33 : List ℕ → ℕ
rule33 rec = first_wrong (fields33 rec)

-- 34: a non-digit in T16 to T19 or T25, or T27 not 00
abbrev pub fields34 : List ℕ → Fields
fields34 rec =
    t T16 (all_of Digit (in_t T16 rec)) ∷ t T17 (all_of Digit (in_t T17 rec)) ∷ t T18 (all_of Digit (in_t T18 rec)) ∷ t T19 (all_of Digit (in_t T19 rec))
    ∷ t T25 (all_of Digit (in_t T25 rec)) ∷ t T27 (same (in_t T27 rec) (ascii "00")) ∷ []

unfoldable pub rule34 : List ℕ → ℕ
rule34 rec = first_wrong (fields34 rec)

-- 35: T26 not all spaces
abbrev pub fields35 : List ℕ → Fields
fields35 rec = t T26 (all_of Space (in_t T26 rec)) ∷ []

unfoldable pub rule35 : List ℕ → ℕ
rule35 rec = first_wrong (fields35 rec)
