-- The first broken rule (RULES 7): in a run of rules, and in a run of records with rules each. `F k rule` is what rule
-- says of record k: 0, or the place of the field that breaks it.
use Rattle.std.specs.Prelude.{ℕ, ◌<◌, ◌≡◌, refl, Bool, not, eqb}
use Rattle.std.proofs.Common.{ap, ◌∙◌, arith}
use Rattle.laws.specs.Choice.{on_ne}
use Rattle.laws.specs.Scan.{first, or_else}
use Rattle.judge.specs.declared.Breach.{Breach}

abbrev pub breaks : (ℕ → ℕ → ℕ) → ℕ → ℕ → Bool
breaks F k rule = not (eqb (F k rule) 0)

-- the first broken rule of record k, from lo k up to below hi k, or 0
abbrev pub first_rule : (ℕ → ℕ → ℕ) → (ℕ → ℕ) → (ℕ → ℕ) → ℕ → ℕ
first_rule F lo hi k = first (breaks F k) (λ rule. rule) 0 (lo k) (hi k)

abbrev pub faulty : (ℕ → ℕ → ℕ) → (ℕ → ℕ) → (ℕ → ℕ) → ℕ → Bool
faulty F lo hi k = not (eqb (first_rule F lo hi k) 0)

-- what is told of record k: its first broken rule, and the place that this rule answers
abbrev pub told_at : (ℕ → ℕ → ℕ) → (ℕ → ℕ) → (ℕ → ℕ) → ℕ → Breach
told_at F lo hi k = record { number = first_rule F lo hi k; rec = k; at = F k (first_rule F lo hi k) }

abbrev pub none : Breach
none = record { number = 0; rec = 0; at = 0 }

-- the first broken rule of the first record that breaks one, of the records below n
abbrev pub first_broken : (ℕ → ℕ → ℕ) → (ℕ → ℕ) → (ℕ → ℕ) → ℕ → Breach
first_broken F lo hi n = first (faulty F lo hi) (told_at F lo hi) none 0 n

pub same_fault : {a b c d e f : ℕ} → a ≡ d → b ≡ e → c ≡ f
    → ◌≡◌ {A = Breach} (record { number = a; rec = b; at = c }) (record { number = d; rec = e; at = f })
same_fault p q r i = record { number = p i; rec = q i; at = r i }

-- a record whose first broken rule is known is told so, with the place that the rule answers
pub found : (F : ℕ → ℕ → ℕ) (lo hi : ℕ → ℕ) (k rule place : ℕ) (rest : Breach) → 0 < rule → rule ≡ first_rule F lo hi k → place ≡ F k rule
    → record { number = rule; rec = k; at = place } ≡ or_else (faulty F lo hi) (told_at F lo hi) k rest
found F lo hi k rule place rest p e q =
    on_ne {r = first_rule F lo hi k} rest refl (λ z. omega arith) (same_fault e refl (q ∙ ap (F k) e))
