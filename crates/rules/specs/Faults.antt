-- The rules by number: what a rule says of a record, 0 or a place. A number that is no rule of the kind says 0.
use Rattle.std.specs.Prelude.{ℕ, cond, List, [], ◌∷◌, eqb}
use Rattle.rules.specs.Q.{rule10, rule11, rule12, rule13, rule14, rule15, rule16}
use Rattle.rules.specs.Z.{rule40, rule41, rule42}

-- the answer beside a rule's number
abbrev pub by_number : List (ℕ × ℕ) → ℕ → ℕ
by_number [] rule = 0
by_number (row ∷ rows) rule = cond (eqb rule row.0) row.1 (by_number rows rule)

abbrev pub q_rules : ℕ → List ℕ → List (ℕ × ℕ)
q_rules page rec =
    (10, rule10 rec) ∷ (11, rule11 rec) ∷ (12, rule12 page rec) ∷ (13, rule13 rec) ∷ (14, rule14 rec) ∷ (15, rule15 rec)
    ∷ (16, rule16 rec) ∷ []

unfoldable pub q_fault : ℕ → List ℕ → ℕ → ℕ
q_fault page rec = by_number (q_rules page rec)

abbrev pub z_rules : ℕ → ℕ → List ℕ → List (ℕ × ℕ)
z_rules payments euros rec = (40, rule40 rec) ∷ (41, rule41 payments rec) ∷ (42, rule42 euros rec) ∷ []

unfoldable pub z_fault : ℕ → ℕ → List ℕ → ℕ → ℕ
z_fault payments euros rec = by_number (z_rules payments euros rec)
