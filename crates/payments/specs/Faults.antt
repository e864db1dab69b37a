-- Rules 20 to 35 by number: what a rule says of a T record, 0 or a place. A number that is no T rule says 0.
use Rattle.std.specs.Prelude.{ℕ, List, [], ◌∷◌}
use Rattle.rules.specs.Faults.{by_number}
use Rattle.payments.specs.Rules.{rule20, rule21, rule22, rule23, rule24, rule25, rule26, rule27, rule28, rule29, rule30, rule31, rule32, rule33, rule34, rule35}

abbrev pub t_rules : ℕ → List ℕ → List ℕ → List ℕ → List ℕ → List (ℕ × ℕ)
t_rules page transfer cheque key rec =
    (20, rule20 rec) ∷ (21, rule21 key rec) ∷ (22, rule22 rec) ∷ (23, rule23 rec) ∷ (24, rule24 rec) ∷ (25, rule25 page rec)
    ∷ (26, rule26 page transfer rec) ∷ (27, rule27 page rec) ∷ (28, rule28 transfer cheque rec) ∷ (29, rule29 page rec)
    ∷ (30, rule30 rec) ∷ (31, rule31 page rec) ∷ (32, rule32 rec) ∷ (33, rule33 rec) ∷ (34, rule34 rec) ∷ (35, rule35 rec) ∷ []

unfoldable pub t_fault : ℕ → List ℕ → List ℕ → List ℕ → List ℕ → ℕ → ℕ
t_fault page transfer cheque key rec = by_number (t_rules page transfer cheque key rec)
