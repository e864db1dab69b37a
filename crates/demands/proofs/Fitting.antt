-- In a file that fits, the records are 0 to n + 1, none is unfit, and what a rule says of a record is what the content
-- walk reads.
use Prim.Native.Nat.{ℕ, ◌+◌, ◌-◌, ◌≤◌, ◌<◌}
use Prim.Native.Char.{code}
use mathlib.Core.Path.{◌≡◌, refl, sym, ap, subst, ◌∙◌}
use mathlib.Core.Bool.{Bool, true, false, cond}
use mathlib.Core.List.{List}
use mathlib.Core.Logic.{⊎_elim}
use native.Mathlib.Nat.{eq-or-lt_of_le}
use native.Mathlib.Omega.{arith}
use borrow.Author.Tests.{eqb-true, eqb-false, leb-true, leb-false}
use lib.Dec.{eqb, leb}
use Rattle.rules.specs.Faults.{q_fault, z_fault}
use Rattle.payments.specs.Rules.{key_of}
use Rattle.payments.specs.Faults.{t_fault}
use Rattle.structure.specs.Slots.{slot_at}
use Rattle.structure.specs.Walk.{letter_of, fault_in}
use Rattle.structure.specs.Whole.{whole, letter_q, letter_t}
use Rattle.structure.specs.Fits.{Reached, Fit}
use Rattle.judge.specs.Sums.{euro_sum}
use Rattle.judge.specs.Content.{fault_of}
use Rattle.judge.specs.ByKind.{of_q, of_t, of_z}
use Rattle.demands.specs.Broken.{Unfit, says}
use Rattle.demands.proofs.Turns.{right_whole, due_walked}

module _ (file : List ℕ) (n : ℕ) (fit : Fit file n) where
  -- the walk comes to no record after Z
  pub due_to : (j : ℕ) → Reached file j → j ≤ n + 1
  due_to j due = go (leb j (n + 1)) refl
    where
      go : (b : Bool) → leb j (n + 1) ≡ b → j ≤ n + 1
      go true e = leb-true j (n + 1) e
      go false e = absurd ((due (n + 1) (leb-false j (n + 1) e)).no_z fit.z)

  pub due_here : (j : ℕ) → j < n + 2 → Reached file j
  due_here j h i l = fit.due i (omega arith)

  pub right_here : (j : ℕ) → j ≤ n + 1 → fault_in j (slot_at file j) ≡ 0
  right_here j h =
      ⊎_elim (λ (e : j ≡ n + 1). subst (λ (i : ℕ). fault_in i (slot_at file i) ≡ 0) (sym e) fit.right)
      (λ (l : j < n + 1). (fit.due j l).right) (eq-or-lt_of_le h)

  pub no_unfit : (m j i : ℕ) → Unfit file m j i → ⊥
  no_unfit m j i u = right_whole file j (right_here j (due_to j (due_walked file j u.due))) i m u.broken

  module _ (page : ℕ) (transfer cheque : List ℕ) (rule : ℕ) where
    F : ℕ → ℕ
    F j = fault_of page file n (euro_sum file n) transfer cheque j rule

    by_letter : ℕ → ℕ → ℕ
    by_letter j letter =
        cond (eqb letter (code "Q")) (q_fault page (slot_at file j) rule)
        (cond (eqb letter (code "T")) (t_fault page transfer cheque (key_of (slot_at file 1)) (slot_at file j) rule)
        (z_fault (j - 1) (euro_sum file (j - 1)) (slot_at file j) rule))

    says_q : (j : ℕ) → j ≡ 0 → says page transfer cheque file j rule ≡ F j
    unfolding F by_letter
    says_q j z =
        let w = whole j (slot_at file j) (right_here j (omega arith)) in
        ap (by_letter j) (letter_q j (letter_of (slot_at file j)) z w.here)
        ∙ of_q page file n (euro_sum file n) transfer cheque j rule _ z (ap (slot_at file) z) refl

    says_t : (j : ℕ) → 1 ≤ j → j ≤ n → says page transfer cheque file j rule ≡ F j
    unfolding F by_letter
    says_t j h l =
        let p = fit.due j (omega arith) in
        let w = whole j (slot_at file j) p.right in
        ap (by_letter j) (letter_t j (letter_of (slot_at file j)) h w.here p.no_z)
        ∙ of_t page file n (euro_sum file n) transfer cheque j rule _ (λ (e : j ≡ 0). omega arith) l refl refl refl refl

    says_z : (j : ℕ) → j ≡ n + 1 → says page transfer cheque file j rule ≡ F j
    unfolding F by_letter
    says_z j e =
        let back : j - 1 ≡ n = omega arith in
        ap (by_letter j) (subst (λ (i : ℕ). letter_of (slot_at file i) ≡ code "Z") (sym e) fit.z)
        ∙ of_z page file n (euro_sum file n) transfer cheque j rule _ (λ (q : j ≡ 0). omega arith) (omega arith) refl
        (ap (λ (k : ℕ). z_fault k (euro_sum file k) (slot_at file j) rule) back)

    pub says_is : (j : ℕ) → j ≤ n + 1 → says page transfer cheque file j rule ≡ fault_of page file n (euro_sum file n) transfer cheque j rule
    unfolding F
    says_is j h = go (eqb j 0) (leb j n) refl refl
      where
        go : (a b : Bool) → eqb j 0 ≡ a → leb j n ≡ b → says page transfer cheque file j rule ≡ F j
        go true b p q = says_q j (eqb-true j 0 p)
        go false true p q = says_t j (omega (arith, eqb-false j 0 p)) (leb-true j n q)
        go false false p q = says_z j (omega (arith, leb-false j n q))
