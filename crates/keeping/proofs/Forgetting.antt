-- Forgetting, again and again: what is forgotten on a day is forgotten on every later one.
use Prim.Native.Nat.{ℕ, ◌-◌, ◌≤◌}
use mathlib.Core.Path.{◌≡◌, refl, sym, ap, ◌∙◌}
use mathlib.Core.Bool.{Bool, true, false, ◌||◌, cond, false≢true}
use mathlib.Core.List.{List, [], ◌∷◌}
use native.Mathlib.Omega.{arith}
use borrow.Author.Tests.{le-leb, leb-true}
use lib.Dec.{eqb}
use Rattle.book.specs.declared.Entry.{Entry}
use Rattle.book.specs.Model.{is_forgotten, held_on, holds}

-- filtering twice: the order does not matter
module _ (a b : ℕ) where
  pub held_turned : (es : List Entry) → held_on a (held_on b es) ≡ held_on b (held_on a es)
  held_turned [] = refl
  held_turned (e ∷ es) = go (is_forgotten a e) (is_forgotten b e) refl refl (held_turned es)
    where
      go : (x y : Bool) → is_forgotten a e ≡ x → is_forgotten b e ≡ y → held_on a (held_on b es) ≡ held_on b (held_on a es)
          → held_on a (cond y (held_on b es) (e ∷ held_on b es)) ≡ held_on b (cond x (held_on a es) (e ∷ held_on a es))
      go true true p q h = h
      go true false p q h = ap (λ (z : Bool). cond z (held_on a (held_on b es)) (e ∷ held_on a (held_on b es))) p ∙ h
      go false true p q h = h ∙ sym (ap (λ (z : Bool). cond z (held_on b (held_on a es)) (e ∷ held_on b (held_on a es))) q)
      go false false p q h =
          ap (λ (z : Bool). cond z (held_on a (held_on b es)) (e ∷ held_on a (held_on b es))) p
          ∙ ap (λ (xs : List Entry). e ∷ xs) h
          ∙ sym (ap (λ (z : Bool). cond z (held_on b (held_on a es)) (e ∷ held_on b (held_on a es))) q)

-- what is held on the later day was held on the earlier one
pub held_later : (day later : ℕ) → day ≤ later → (es : List Entry) → held_on later (held_on day es) ≡ held_on later es
held_later day later h [] = refl
held_later day later h (e ∷ es) = go (is_forgotten day e) refl (held_later day later h es)
  where
    go : (x : Bool) → is_forgotten day e ≡ x → held_on later (held_on day es) ≡ held_on later es
        → held_on later (cond x (held_on day es) (e ∷ held_on day es)) ≡ cond (is_forgotten later e) (held_on later es) (e ∷ held_on later es)
    go true p i =
        let gone : is_forgotten later e ≡ true = le-leb 5 (later - e.day) (omega (arith, h, leb-true 5 (day - e.day) p)) in
        i ∙ sym (ap (λ (z : Bool). cond z (held_on later es) (e ∷ held_on later es)) gone)
    go false p i = ap (λ (xs : List Entry). cond (is_forgotten later e) xs (e ∷ xs)) i

-- a number that is not held is not held when some are forgotten
pub holds_not : (number day : ℕ) (es : List Entry) → holds number es ≡ false → holds number (held_on day es) ≡ false
holds_not number day [] h = refl
holds_not number day (e ∷ es) h = go (is_forgotten day e) (eqb e.number number) refl h (holds_not number day es)
  where
    go : (x y : Bool) → eqb e.number number ≡ y → y || holds number es ≡ false → (holds number es ≡ false → holds number (held_on day es) ≡ false)
        → holds number (cond x (held_on day es) (e ∷ held_on day es)) ≡ false
    go true true p q i = absurd (false≢true (sym q))
    go true false p q i = i q
    go false true p q i = absurd (false≢true (sym q))
    go false false p q i = ap (λ (z : Bool). z || holds number (held_on day es)) p ∙ i q
