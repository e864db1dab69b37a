-- The walk tells the first broken rule of the paper's list; a record at which it tells none is whole.
use Prim.Native.Nat.{ℕ, zero, suc, ◌≤◌, ◌<◌}
use Prim.Native.Char.{code}
use mathlib.Core.Path.{◌≡◌, refl, sym, ◌∙◌}
use mathlib.Core.Bool.{Bool, true, false, ◌&&◌, not, cond, false≢true}
use mathlib.Core.List.{List, [], ◌∷◌}
use native.Mathlib.Omega.{arith}
use borrow.Author.Tests.{eqb-true, eqb-false}
use lib.Dec.{eqb, ltb, lit≤}
use lib.ListN.{length}
use Rattle.fields.specs.Class.{same}
use Rattle.structure.specs.Slots.{slot_at}
use Rattle.structure.specs.Walk.{letter_of, digits_of, allowed, length_for, digits_for, fault_in}
use Rattle.structure.specs.Fits.{Reached}
use Rattle.demands.specs.Broken.{walk_rules, BrokenIn, Whole, Due}

-- the first broken rule of a list, or 0
abbrev first_of : List (ℕ × Bool) → ℕ
first_of [] = 0
first_of (row ∷ rows) = cond row.1 row.0 (first_of rows)

-- each number of the list is one of 2 to 5
abbrev Within : List (ℕ × Bool) → Type 0
Within [] = Unit {0}
Within (row ∷ rows) = ((2 ≤ row.0) × (row.0 ≤ 5)) × Within rows

range_in : (rows : List (ℕ × Bool)) → Within rows → (i m : ℕ) → BrokenIn rows i m → (2 ≤ m) × (m ≤ 5)
range_in [] w i m b = absurd b
range_in (row ∷ rows) w zero m b = (omega (arith, w.0.0, b.0), omega (arith, w.0.1, b.0))
range_in (row ∷ rows) w (suc i) m b = range_in rows w.1 i m b

-- the turn at which a rule is broken, and none before it
pub record FirstIn (rows : List (ℕ × Bool)) (number : ℕ) : Type 0 where
  pub turn : ℕ
  pub there : BrokenIn rows turn number
  pub none_before : (i m : ℕ) → i < turn → BrokenIn rows i m → ⊥

first_in : (rows : List (ℕ × Bool)) (number : ℕ) → first_of rows ≡ number → (number ≡ 0 → ⊥) → FirstIn rows number
first_in [] number e real = absurd (real (sym e))
first_in (row ∷ rows) number e real = go row.1 refl e (λ q. first_in rows number q real)
  where
    before : row.1 ≡ false → (turn : ℕ) → ((i m : ℕ) → i < turn → BrokenIn rows i m → ⊥) → (i m : ℕ) → i < suc turn → BrokenIn (row ∷ rows) i m → ⊥
    before t turn none zero m l b = false≢true (sym t ∙ b.1)
    before t turn none (suc i) m l b = none i m (omega (arith, l)) b

    go : (b : Bool) → row.1 ≡ b → cond b row.0 (first_of rows) ≡ number → (first_of rows ≡ number → FirstIn rows number)
        → FirstIn (row ∷ rows) number
    go true t e later = record { turn = 0; there = (e, t); none_before = λ i m l. absurd (omega (arith, l)) }
    go false t e later =
        let f = later e in
        record { turn = suc f.turn; there = f.there; none_before = before t f.turn f.none_before }

none_in : (rows : List (ℕ × Bool)) → Within rows → first_of rows ≡ 0 → (i m : ℕ) → BrokenIn rows i m → ⊥
none_in [] w e i m b = b
none_in (row ∷ rows) w e i m b = go row.1 refl e i b (λ q j. none_in rows w.1 q j m)
  where
    go : (t : Bool) → row.1 ≡ t → cond t row.0 (first_of rows) ≡ 0 → (i : ℕ) → BrokenIn (row ∷ rows) i m
        → (first_of rows ≡ 0 → (j : ℕ) → BrokenIn rows j m → ⊥) → ⊥
    go true t e i b later = omega (arith, e, w.0.0)
    go false t e zero b later = false≢true (sym t ∙ b.1)
    go false t e (suc i) b later = later e i b

module _ (k : ℕ) (slot : List ℕ) where
  walk_within : Within (walk_rules k slot)
  walk_within =
      ((lit≤ tt, lit≤ tt), ((lit≤ tt, lit≤ tt), ((lit≤ tt, lit≤ tt), ((lit≤ tt, lit≤ tt), ((lit≤ tt, lit≤ tt), tt)))))

  fault_is : first_of (walk_rules k slot) ≡ fault_in k slot
  unfolding fault_in
  fault_is = go (allowed k (letter_of slot)) (same (digits_of slot) (digits_for (letter_of slot)))
    where
      last : ℕ
      last = cond (ltb (length slot) (length_for (letter_of slot))) 2 (cond (eqb (letter_of slot) (code "Z") && ltb 256 (length slot)) 5 0)

      go : (a d : Bool) → cond (ltb (length slot) 5) 2 (cond (not a) 4 (cond (not d) 3 last))
          ≡ cond (ltb (length slot) 5) 2 (cond a (cond d last 3) 4)
      go true true = refl
      go true false = refl
      go false d = refl

  pub told_first : (number : ℕ) → fault_in k slot ≡ number → (number ≡ 0 → ⊥) → FirstIn (walk_rules k slot) number
  told_first number e real = first_in (walk_rules k slot) number (fault_is ∙ e) real

  pub walk_range : (i m : ℕ) → BrokenIn (walk_rules k slot) i m → (2 ≤ m) × (m ≤ 5)
  walk_range i m b = range_in (walk_rules k slot) walk_within i m b

module _ (file : List ℕ) where
  pub whole_right : (k : ℕ) → Whole file k → fault_in k (slot_at file k) ≡ 0
  whole_right k whole = go (eqb (fault_in k (slot_at file k)) 0) refl
    where
      go : (b : Bool) → eqb (fault_in k (slot_at file k)) 0 ≡ b → fault_in k (slot_at file k) ≡ 0
      go true e = eqb-true _ _ e
      go false e =
          let f = told_first k (slot_at file k) (fault_in k (slot_at file k)) refl (eqb-false _ _ e) in
          absurd (whole f.turn (fault_in k (slot_at file k)) f.there)

  pub right_whole : (k : ℕ) → fault_in k (slot_at file k) ≡ 0 → Whole file k
  right_whole k e turn number b =
      none_in (walk_rules k (slot_at file k)) (walk_within k (slot_at file k)) (fault_is k (slot_at file k) ∙ e) turn number b

  -- the walk comes to the records that are due, and to no other
  pub due_walked : (k : ℕ) → Due file k → Reached file k
  due_walked k due j l = record { right = whole_right j (due j l).whole; no_z = (due j l).no_z }

  pub walked_due : (k : ℕ) → Reached file k → Due file k
  walked_due k due j l = record { whole = right_whole j (due j l).right; no_z = (due j l).no_z }
