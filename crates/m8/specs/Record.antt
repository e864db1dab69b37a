-- Document 02, A6 (RULES 9.10): "one record of 124 bytes by source document 000, table 15: D, M8, Q6, three zeros and Q7,
-- seven zeros, 16 spaces, a space, two zeros, T14a and two digits of T14b, a six-byte code, as customer reference the first
-- line of T15 after replacement, 27 spaces."
use Rattle.std.specs.Prelude.{ℕ, ◌+◌, ◌*◌, ◌-◌, ◌≡◌, refl, List, [], ◌∷◌, ◌++◌, take, drop}
use Rattle.laws.specs.Ascii.{ascii, zeros, spaces}
use Rattle.charset.specs.Table.{text}
use Rattle.records.specs.Places.{◌to◌, part, line_of, t_place}
use Rattle.records.specs.declared.QField.TheVariants.{Q6, Q7}
use Rattle.records.specs.declared.TField.TheVariants.{T14a, T14b, T15}
use Rattle.rules.specs.Q.{in_q}
use Rattle.payments.specs.Rules.{in_t}
use Rattle.judge.specs.Records.{joined}

-- "two zeros, T14a and two digits of T14b"
abbrev pub amount_of : List ℕ → List ℕ
amount_of t = zeros 2 ++ (in_t T14a t ++ part (0 to 1) (in_t T14b t))

-- "as customer reference the first line of T15 after replacement"
abbrev pub reference_of : ℕ → List ℕ → List ℕ
reference_of page t = text page (part (line_of (t_place T15) 1) t)

-- table 15, from DM8-1 to DM8-11: of a file with this Q, a payment t, and the code of the first rule that it breaks
abbrev pub fields : ℕ → List ℕ → List ℕ → List ℕ → List (List ℕ)
fields page q reason t =
    ascii "D"  -- DM8-1
    ∷ ascii "M8"  -- DM8-2
    ∷ in_q Q6 q  -- DM8-3
    ∷ (zeros 3 ++ in_q Q7 q)  -- DM8-4
    ∷ zeros 7  -- DM8-5
    ∷ spaces 16  -- DM8-6
    ∷ spaces 1  -- DM8-7
    ∷ amount_of t  -- DM8-8
    ∷ reason  -- DM8-9
    ∷ reference_of page t  -- DM8-10
    ∷ spaces 27  -- DM8-11
    ∷ []

unfoldable pub m8_of : ℕ → List ℕ → List ℕ → List ℕ → List ℕ
m8_of page q reason t = joined (fields page q reason t)

-- the column "Format" of table 15: how long each field is
abbrev pub formats : List ℕ
formats = 1 ∷ 2 ∷ 6 ∷ 5 ∷ 7 ∷ 16 ∷ 1 ∷ 18 ∷ 6 ∷ 35 ∷ 27 ∷ []

abbrev pub together : List ℕ → ℕ
together [] = 0
together (n ∷ ns) = n + together ns

-- "one record of 124 bytes": the widths make 124. That the fields have these widths is proofs/Writing `fields_long`, and that
-- a whole record has 124 bytes `m8_long`
pub long : together formats ≡ 124
long = refl

-- "six bytes for each rule from 20 to 35 in order"
abbrev pub code_of : List ℕ → ℕ → List ℕ
code_of codes rule = take 6 (drop (6 * (rule - 20)) codes)
