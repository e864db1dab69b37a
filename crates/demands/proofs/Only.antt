-- The first broken rule is the only one: of two, neither comes before the other, and so they are one.
use Prim.Native.Nat.{ℕ, zero, suc}
use mathlib.Core.Path.{◌≡◌, sym, ap, subst₂, ◌∙◌}
use mathlib.Core.Bool.{Bool}
use mathlib.Core.List.{List, [], ◌∷◌}
use mathlib.Core.Logic.{inl, inr}
use native.Mathlib.Omega.{arith}
use Rattle.structure.specs.Slots.{slot_at}
use Rattle.demands.specs.Broken.{Broken, stage, walk_rules, BrokenIn}
use Rattle.demands.specs.Demand2.{FirstIsOne}
use Rattle.demands.proofs.Alone.{one_number}
use Rattle.demands.proofs.Demand2.{unfit_stage, content_stage}

-- the list has one rule at each turn
one_row : (rows : List (ℕ × Bool)) (i m n : ℕ) → BrokenIn rows i m → BrokenIn rows i n → m ≡ n
one_row [] i m n a b = absurd a
one_row (row ∷ rows) zero m n a b = sym a.0 ∙ b.0
one_row (row ∷ rows) (suc i) m n a b = one_row rows i m n a b

module _ (page : ℕ) (transfer cheque file : List ℕ) where
  -- so has a record at each turn of a stage
  one_rule : (m n j i : ℕ) → stage m ≡ stage n → Broken page transfer cheque file m j i → Broken page transfer cheque file n j i → m ≡ n
  one_rule m n j i e (inl a) (inl b) = a.rule ∙ sym b.rule
  one_rule m n j i e (inr (inl a)) (inr (inl b)) = one_row (walk_rules j (slot_at file j)) i m n a.broken b.broken
  one_rule m n j i e (inr (inr a)) (inr (inr b)) = sym a.own_turn ∙ b.own_turn
  one_rule m n j i e (inl a) (inr (inl b)) = absurd (omega (arith, e, ap stage a.rule, unfit_stage page transfer cheque file n j i b))
  one_rule m n j i e (inl a) (inr (inr b)) = absurd (omega (arith, e, ap stage a.rule, content_stage page transfer cheque file n j i b))
  one_rule m n j i e (inr (inl a)) (inl b) = absurd (omega (arith, e, ap stage b.rule, unfit_stage page transfer cheque file m j i a))
  one_rule m n j i e (inr (inr a)) (inl b) = absurd (omega (arith, e, ap stage b.rule, content_stage page transfer cheque file m j i a))
  one_rule m n j i e (inr (inl a)) (inr (inr b)) =
      absurd (omega (arith, e, unfit_stage page transfer cheque file m j i a, content_stage page transfer cheque file n j i b))
  one_rule m n j i e (inr (inr a)) (inr (inl b)) =
      absurd (omega (arith, e, content_stage page transfer cheque file m j i a, unfit_stage page transfer cheque file n j i b))

pub first_is_one : FirstIsOne
first_is_one page transfer cheque file m j n k a b = (one_rule page transfer cheque file m n k b.turn stages there b.there, records, turns)
  where
    stages : stage m ≡ stage n
    stages =
        one_number (stage m) (stage n) (λ l. b.none_before m j a.turn (inl l) a.there)
        (λ l. a.none_before n k b.turn (inl l) b.there)

    records : j ≡ k
    records =
        one_number j k (λ l. b.none_before m j a.turn (inr (stages, inl l)) a.there)
        (λ l. a.none_before n k b.turn (inr (sym stages, inl l)) b.there)

    turns : a.turn ≡ b.turn
    turns =
        one_number a.turn b.turn (λ l. b.none_before m j a.turn (inr (stages, inr (records, l))) a.there)
        (λ l. a.none_before n k b.turn (inr (sym stages, inr (sym records, l))) b.there)

    there : Broken page transfer cheque file m k b.turn
    there = subst₂ (Broken page transfer cheque file m) records turns a.there
