-- A rule says something only of the records that it is a rule of: its number lies in the kind's range.
use Prim.Native.Nat.{ℕ, ◌≤◌, ◌<◌}
use mathlib.Core.Path.{◌≡◌, refl, sym, ap, ◌∙◌, subst}
use mathlib.Core.Bool.{Bool, true, false, ◌&&◌, cond}
use mathlib.Core.List.{List, [], ◌∷◌}
use native.Mathlib.Omega.{arith}
use borrow.Author.Tests.{eqb-true, ne_eqb, lt-leb, le-leb}
use lib.Dec.{eqb, leb, ltb, T, leb→le, ltb→lt}
use Rattle.rules.specs.Faults.{by_number, q_rules, z_rules, q_fault, z_fault}
use Rattle.payments.specs.Faults.{t_rules, t_fault}
use Rattle.demands.specs.Broken.{stage}

-- the numbers of the rows lie from lo up to below hi
abbrev within : ℕ → ℕ → List (ℕ × ℕ) → Bool
within lo hi [] = true
within lo hi (row ∷ rows) = leb lo row.0 && ltb row.0 hi && within lo hi rows

both : (a b c : Bool) → T (a && b && c) → T a × T b × T c
both true true c t = (tt, tt, t)
both true false c t = absurd t
both false b c t = absurd t

abbrev In : ℕ → ℕ → ℕ → Type 0
In lo hi rule = (lo ≤ rule) × (rule < hi)

in_range : (lo hi : ℕ) (rows : List (ℕ × ℕ)) → T (within lo hi rows) → (rule : ℕ) → (by_number rows rule ≡ 0 → ⊥) → In lo hi rule
in_range lo hi [] t rule n = absurd (n refl)
in_range lo hi (row ∷ rows) t rule n =
    let p = both (leb lo row.0) (ltb row.0 hi) (within lo hi rows) t in
    go (eqb rule row.0) refl p n (in_range lo hi rows p.2 rule)
  where
    go : (b : Bool) → eqb rule row.0 ≡ b → T (leb lo row.0) × T (ltb row.0 hi) × T (within lo hi rows)
        → (cond b row.1 (by_number rows rule) ≡ 0 → ⊥) → ((by_number rows rule ≡ 0 → ⊥) → In lo hi rule) → In lo hi rule
    go true e p n ih =
        subst (In lo hi) (sym (eqb-true rule row.0 e)) (leb→le lo row.0 p.0, ltb→lt row.0 hi p.1)
    go false e p n ih = ih n

pub q_range : (page : ℕ) (rec : List ℕ) (rule : ℕ) → (q_fault page rec rule ≡ 0 → ⊥) → In 10 17 rule
unfolding q_fault
q_range page rec rule n = in_range 10 17 (q_rules page rec) tt rule n

pub t_range : (page : ℕ) (transfer cheque key rec : List ℕ) (rule : ℕ) → (t_fault page transfer cheque key rec rule ≡ 0 → ⊥) → In 20 36 rule
unfolding t_fault
t_range page transfer cheque key rec rule n = in_range 20 36 (t_rules page transfer cheque key rec) tt rule n

pub z_range : (payments euros : ℕ) (rec : List ℕ) (rule : ℕ) → (z_fault payments euros rec rule ≡ 0 → ⊥) → In 40 43 rule
unfolding z_fault
z_range payments euros rec rule n = in_range 40 43 (z_rules payments euros rec) tt rule n

-- stages
pub stage_content : (number : ℕ) → 10 ≤ number → stage number ≡ 2
stage_content number h =
    ap (λ (t : Bool). cond t 0 (cond (leb number 5) 1 2)) (ne_eqb number 1 (λ (e : number ≡ 1). omega arith))
    ∙ ap (λ (t : Bool). cond t 1 2) (lt-leb number 5 (omega arith))

pub stage_walk : (number : ℕ) → 2 ≤ number → number ≤ 5 → stage number ≡ 1
stage_walk number l h =
    ap (λ (t : Bool). cond t 0 (cond (leb number 5) 1 2)) (ne_eqb number 1 (λ (e : number ≡ 1). omega arith))
    ∙ ap (λ (t : Bool). cond t 1 2) (le-leb number 5 h)
