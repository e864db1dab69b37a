-- When two numbers are one, and when two lists are: where both rise, and each element of one is in the other.
use Prim.Native.Nat.{ℕ, zero, suc, ◌<◌}
use mathlib.Core.Path.{◌≡◌, refl, sym, ap₂}
use mathlib.Core.Bool.{Bool, true, false}
use mathlib.Core.List.{List, [], ◌∷◌}
use native.Mathlib.Omega.{arith}
use borrow.Author.Tests.{ltb-true, ltb-false}
use lib.Dec.{ltb}
use lib.ListN.{length, get_or}

-- where neither number is below the other they are equal
pub one_number : (a b : ℕ) → (a < b → ⊥) → (b < a → ⊥) → a ≡ b
one_number a b f g = go (ltb a b) (ltb b a) refl refl
  where
    go : (p q : Bool) → ltb a b ≡ p → ltb b a ≡ q → a ≡ b
    go true q p e = absurd (f (ltb-true a b p))
    go false true p e = absurd (g (ltb-true b a e))
    go false false p e = omega (arith, ltb-false a b p, ltb-false b a e)

abbrev Rising : List ℕ → Type 0
Rising a = (j k : ℕ) → j < k → k < length a → get_or a j 0 < get_or a k 0

-- each element of a is in b
abbrev In : List ℕ → List ℕ → Type 0
In a b = (k : ℕ) → k < length a → (j : ℕ) × (j < length b) × (get_or b j 0 ≡ get_or a k 0)

-- past the first
rising_rest : (x : ℕ) (a : List ℕ) → Rising (x ∷ a) → Rising a
rising_rest x a r j k l h = r (suc j) (suc k) (omega (arith, l)) (omega (arith, h))

-- the first of a list is not above that of another in which it is
not_above : (x y : ℕ) (a b : List ℕ) → Rising (y ∷ b) → In (x ∷ a) (y ∷ b) → x < y → ⊥
not_above x y a b r i l = go (i 0 (omega arith))
  where
    go : (j : ℕ) × (j < length (y ∷ b)) × (get_or (y ∷ b) j 0 ≡ x) → ⊥
    go (zero, h, e) = omega (arith, e, l)
    go (suc j, h, e) = omega (arith, r 0 (suc j) (omega arith) h, e, l)

-- without an equal first element, still each is in the other
in_rest : (x y : ℕ) (a b : List ℕ) → x ≡ y → Rising (x ∷ a) → In (x ∷ a) (y ∷ b) → In a b
in_rest x y a b q r i k h = go (i (suc k) (omega (arith, h)))
  where
    go : (j : ℕ) × (j < length (y ∷ b)) × (get_or (y ∷ b) j 0 ≡ get_or a k 0) → (j : ℕ) × (j < length b) × (get_or b j 0 ≡ get_or a k 0)
    go (zero, l, e) = absurd (omega (arith, r 0 (suc k) (omega arith) (omega (arith, h)), q, e))
    go (suc j, l, e) = (j, omega (arith, l), e)

pub same_rising : (a b : List ℕ) → Rising a → Rising b → In a b → In b a → a ≡ b
same_rising [] [] r s i o = refl
same_rising [] (y ∷ b) r s i o = let w = o 0 (omega arith) in absurd (omega (arith, w.1))
same_rising (x ∷ a) [] r s i o = let w = i 0 (omega arith) in absurd (omega (arith, w.1))
same_rising (x ∷ a) (y ∷ b) r s i o =
    let q : x ≡ y = one_number x y (not_above x y a b s i) (not_above y x b a r o) in
    ap₂ ◌∷◌ q (same_rising a b (rising_rest x a r) (rising_rest y b s) (in_rest x y a b q r i) (in_rest y x b a (sym q) s o))
