-- Whether a field is there, by the walk: a file that is not refused fits, with n payments, and records 1 to n are its T records.
use Prim.Native.Nat.{ℕ, ◌+◌, ◌≤◌}
use Prim.Native.Char.{code}
use mathlib.Core.Path.{◌≡◌, refl, sym, ap, ◌∙◌}
use mathlib.Core.Bool.{Bool, true, false}
use mathlib.Core.List.{List}
use mathlib.Core.Logic.{◌⊎◌, inl, inr, ⊎_elim}
use native.Mathlib.Nat.{eq-or-lt_of_le}
use native.Mathlib.Omega.{arith}
use borrow.Author.Tests.{eqb-true, eqb-false}
use lib.Dec.{eqb}
use Rattle.structure.specs.Slots.{slot_at}
use Rattle.structure.specs.Walk.{letter_of, structure_of}
use Rattle.structure.specs.Whole.{whole, letter_q, letter_t}
use Rattle.structure.specs.Fits.{Fit, Tells, tells, fits}
use Rattle.structure.specs.Shape.{Shape, Fits, Refused}
use Rattle.demands.specs.Broken.{Due}
use Rattle.demands.specs.Show.{Walked, There}
use Rattle.demands.proofs.Turns.{told_first, due_walked, walked_due}
use Rattle.demands.proofs.Fitting.{due_to, right_here, no_unfit}

-- the same by the number of payments
abbrev pub HasIn : ℕ → ℕ → ℕ → Type 0
HasIn n k f = ((k ≡ 0) × (f ≡ 1)) ⊎ ((1 ≤ k) × (k ≤ n) × (2 ≤ f) × (f ≤ 9))

abbrev pub ThereIn : List ℕ → ℕ → ℕ → Type 0
ThereIn file k f = (n : ℕ) × (structure_of file ≡ Fits n) × HasIn n k f

module _ (file : List ℕ) where
  walked_fits : Walked file → (n : ℕ) × (structure_of file ≡ Fits n)
  walked_fits walked = go (structure_of file) refl (tells file)
    where
      go : (s : Shape) → structure_of file ≡ s → Tells file s → (n : ℕ) × (structure_of file ≡ Fits n)
      go (Fits n) e t = (n, e)
      go (Refused number rec) e (inl t) =
          absurd (walked 1 0 0 (inl (record { rule = refl; first_record = refl; first_turn = refl; long = t.0 })))
      go (Refused number rec) e (inr t) =
          let f = told_first rec (slot_at file rec) number t.1.broken t.1.real in
          absurd (walked number rec f.turn (inr (record { due = walked_due file rec t.1.due; broken = f.there })))

  module _ (n : ℕ) (fit : Fit file n) where
    fits_walked : Walked file
    fits_walked m j i (inl t) = omega (arith, t.long, fit.long, fit.most)
    fits_walked m j i (inr u) = no_unfit file n fit m j i u

    -- a T record is one of records 1 to n, and the other way round
    t_record : (k : ℕ) → Due file k → letter_of (slot_at file k) ≡ code "T" → (1 ≤ k) × (k ≤ n)
    t_record k due letter = (first (eqb k 0) refl, ⊎_elim last (λ l. omega (arith, l)) (eq-or-lt_of_le in_file))
      where
        in_file : k ≤ n + 1
        in_file = due_to file n fit k (due_walked file k due)

        first : (b : Bool) → eqb k 0 ≡ b → 1 ≤ k
        first true e =
            let q = letter_q k (letter_of (slot_at file k)) (eqb-true k 0 e) (whole k (slot_at file k) (right_here file n fit k in_file)).here in
            absurd (eqb-false (code "T") (code "Q") refl (sym letter ∙ q))
        first false e = omega (arith, eqb-false k 0 e)

        last : k ≡ n + 1 → k ≤ n
        last e = absurd (eqb-false (code "T") (code "Z") refl (sym letter ∙ ap (λ (j : ℕ). letter_of (slot_at file j)) e ∙ fit.z))

    due_within : (k : ℕ) → k ≤ n → Due file k
    due_within k h = walked_due file k (λ j l. fit.due j (omega (arith, l)))

  pub there_in : (k f : ℕ) → There file k f → ThereIn file k f
  there_in k f (walked, due, has) = go has
    where
      go : ((k ≡ 0) × (f ≡ 1)) ⊎ ((letter_of (slot_at file k) ≡ code "T") × (2 ≤ f) × (f ≤ 9)) → ThereIn file k f
      go (inl q) = let w = walked_fits walked in (w.0, w.1, inl q)
      go (inr t) =
          let w = walked_fits walked in
          let r = t_record w.0 (fits file w.0 w.1) k due t.0 in
          (w.0, w.1, inr (r.0, r.1, t.1, t.2))

  pub in_there : (k f : ℕ) → ThereIn file k f → There file k f
  in_there k f (n, e, inl q) =
      let fit = fits file n e in
      (fits_walked n fit, due_within n fit k (omega (arith, q.0)), inl q)
  in_there k f (n, e, inr (some, in_file, low, high)) =
      let fit = fits file n e in
      let p = fit.due k (omega (arith, in_file)) in (
        fits_walked n fit,
        due_within n fit k in_file,
        inr (letter_t k (letter_of (slot_at file k)) some (whole k (slot_at file k) p.right).here p.no_z, low, high),
      )
