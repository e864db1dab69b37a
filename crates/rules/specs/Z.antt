-- Document 01, rules 40 to 42 (RULES 6.3): the Z record, with the number of T records and the sum of their T14a.
use Rattle.std.specs.Prelude.{ℕ, Bool, List, [], ◌∷◌, eqb}
use Rattle.records.specs.Places.{part, z_place}
use Rattle.records.specs.declared.ZField.{ZField}
use Rattle.records.specs.declared.ZField.TheVariants.{Z3, Z4, Z5}
use Rattle.fields.specs.Class.{all_of}
use Rattle.fields.specs.Number.{dec}
use Rattle.fields.specs.declared.Class.TheVariants.{Digit, Space}
use Rattle.rules.specs.Wrong.{Fields, first_wrong}

-- the bytes of a field, and its offset beside whether it is as it should be
abbrev pub in_z : ZField → List ℕ → List ℕ
in_z f rec = part (z_place f) rec

abbrev pub z : ZField → Bool → ℕ × Bool
z f right = ((z_place f).start, right)

-- 40: a non-digit in Z3 or Z4, or Z5 not all spaces
abbrev pub fields40 : List ℕ → Fields
fields40 rec = z Z3 (all_of Digit (in_z Z3 rec)) ∷ z Z4 (all_of Digit (in_z Z4 rec)) ∷ z Z5 (all_of Space (in_z Z5 rec)) ∷ []

unfoldable pub rule40 : List ℕ → ℕ
rule40 rec = first_wrong (fields40 rec)

-- 41: Z4 is not the number of T records
abbrev pub fields41 : ℕ → List ℕ → Fields
fields41 payments rec = z Z4 (eqb (dec (in_z Z4 rec)) payments) ∷ []

unfoldable pub rule41 : ℕ → List ℕ → ℕ
rule41 payments rec = first_wrong (fields41 payments rec)

-- 42: Z3 is not the sum of all T14a (whole euros, no cents)
abbrev pub fields42 : ℕ → List ℕ → Fields
fields42 euros rec = z Z3 (eqb (dec (in_z Z3 rec)) euros) ∷ []

unfoldable pub rule42 : ℕ → List ℕ → ℕ
rule42 euros rec = first_wrong (fields42 euros rec)
