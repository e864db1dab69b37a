-- Document 01, "Show a field" (RULES 9.6): from a file, a record number and a field number, the very part of the caller's
-- bytes. "The part is empty exactly when the walk refuses, the record doesn't exist, or that record has no such field."
use Rattle.std.specs.Prelude.{ℕ, ◌+◌, ◌≤◌, ◌<◌, ◌≡◌, refl, Bool, true, false, cond, List, eqb, leb, length}
use Rattle.std.proofs.Common.{sym, ap₂, ◌∙◌, arith, leb-true}
use Rattle.std.proofs.Math.Path.{ap}
use Rattle.std.proofs.lemmas.Bool.{eqb-false}
use Rattle.laws.specs.Choice.{either, on_eq, off_eq, on_le, off_le}
use Rattle.records.specs.Places.{record_at, PartOf, nowhere, q_text, t_text}
use Rattle.records.specs.Inside.{Inside, q_text_inside, t_text_inside}
use Rattle.records.specs.declared.Span.{Span}
use Rattle.structure.specs.Slots.{place_is}
use Rattle.structure.specs.Walk.{structure_of}
use Rattle.structure.specs.Fits.{Fit, fits}
use Rattle.structure.specs.Shape.{Shape, Fits, Refused}

-- a place in a record that starts at an offset of the file; nowhere stays nowhere
abbrev pub moved : ℕ → Span → Span
moved at s = cond (eqb s.end 0) nowhere (record { start = at + s.start; end = at + s.end })

-- the place in the file of text field f of record k
abbrev pub shown_by : Shape → ℕ → ℕ → Span
shown_by (Refused number rec) k f = nowhere
shown_by (Fits n) k f = cond (eqb k 0) (q_text f) (cond (leb k n) (moved (record_at k) (t_text f)) nowhere)

unfoldable pub shown_at : List ℕ → ℕ → ℕ → Span
shown_at file k f = shown_by (structure_of file) k f

-- what is promised of showing a field, for every input: the part begins at the field's place in the caller's own memory, where
-- the file begins at `from`, and is that field's bytes
abbrev pub ShownAs : (ℕ × ℕ) → List ℕ → ℕ → ℕ → (ℕ × ℕ) → List ℕ → Type 0
ShownAs from file k f at bytes = PartOf (shown_at file k f) from file at bytes

nowhere_inside : (n : ℕ) → Inside n nowhere
nowhere_inside n = (omega arith, omega arith)

-- every text field lies in the file
pub shown_inside : (file : List ℕ) (k f : ℕ) → Inside (length file) (shown_at file k f)
unfolding shown_at
shown_inside file k f = go (structure_of file) (λ n e. fits file n e)
  where
    t_inside : (n : ℕ) → Fit file n → (b : Bool) → leb k n ≡ b → (k ≡ 0 → ⊥) → Inside (length file) (cond b (moved (record_at k) (t_text f)) nowhere)
    t_inside n fit false e z = nowhere_inside (length file)
    t_inside n fit true e z =
        let s = t_text_inside f in
        either (Inside (length file)) (eqb (t_text f).end 0) _ _ (nowhere_inside (length file))
        (omega (arith, s.0), omega (arith, s.1, place_is k, fit.long, leb-true k n e))

    fit_inside : (n : ℕ) → Fit file n → (a : Bool) → eqb k 0 ≡ a
        → Inside (length file) (cond a (q_text f) (cond (leb k n) (moved (record_at k) (t_text f)) nowhere))
    fit_inside n fit true e = let s = q_text_inside f in (s.0, omega (arith, s.1, fit.long))
    fit_inside n fit false e = t_inside n fit (leb k n) refl (eqb-false k 0 e)

    go : (s : Shape) → ((n : ℕ) → s ≡ Fits n → Fit file n) → Inside (length file) (shown_by s k f)
    go (Refused number rec) h = nowhere_inside (length file)
    go (Fits n) h = fit_inside n (h n refl) (eqb k 0) refl

-- the place by what the walk found
module _ (file : List ℕ) (k f : ℕ) where
  pub by_shape : {r : Span} {s : Shape} → structure_of file ≡ s → r ≡ shown_by s k f → r ≡ shown_at file k f
  unfolding shown_at
  by_shape e h = h ∙ ap (λ (s : Shape). shown_by s k f) (sym e)

  module _ (n : ℕ) (e : structure_of file ≡ Fits n) {r : Span} where
    pub in_q : k ≡ 0 → r ≡ q_text f → r ≡ shown_at file k f
    in_q z h = by_shape e (on_eq _ z h)

    pub in_t : {at : ℕ} {s : Span} → (k ≡ 0 → ⊥) → k ≤ n → at ≡ record_at k → s ≡ t_text f → r ≡ moved at s → r ≡ shown_at file k f
    in_t z h p q m = by_shape e (off_eq _ z (on_le _ h (m ∙ ap₂ moved p q)))

    pub in_none : (k ≡ 0 → ⊥) → n < k → r ≡ nowhere → r ≡ shown_at file k f
    in_none z h m = by_shape e (off_eq _ z (off_le _ h m))

pub text_inside : (f : ℕ) {s : Span} → s ≡ t_text f → Inside 768 s
text_inside f e = rw e (t_text_inside f)
