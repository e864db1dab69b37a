-- A turn of the walk, by what the code found: rec is the slot of record k, f what breaks there.
use Rattle.std.specs.Prelude.{ℕ, ◌-◌, ◌≡◌, refl, true, List, get_or}
use Prim.Native.Char.{code}
use Rattle.std.proofs.Common.{sym, ap, ◌∙◌, eq-eqb, ne_eqb}
use Rattle.laws.specs.Choice.{on, off, on_eq, off_eq}
use Rattle.laws.specs.Scan.{or_else}
use Rattle.structure.specs.Slots.{slot_at}
use Rattle.structure.specs.Walk.{letter_of, fault_in, stops, told}
use Rattle.structure.specs.Whole.{whole_t, t_no_z, t_right}
use Rattle.structure.specs.Fits.{WalksOn, stays}
use Rattle.structure.specs.Shape.{Shape, Fits, Refused}

module _ (file : List ℕ) (k f : ℕ) (rec : List ℕ) (s : rec ≡ slot_at file k) (e : f ≡ fault_in k rec) where
  fault_is : f ≡ fault_in k (slot_at file k)
  fault_is = e ∙ ap (fault_in k) s

  pub passed : f ≡ 0 → (get_or rec 4 0 ≡ code "Z" → ⊥) → WalksOn file k
  passed z n = record { right = sym fault_is ∙ z; no_z = λ q. n (ap letter_of s ∙ q) }

  pub hands_on : WalksOn file k → (rest : Shape) → rest ≡ or_else (stops file) (told file) k rest
  hands_on p rest = off _ (stays file k p) refl

  pub stops_broken : (f ≡ 0 → ⊥) → (rest : Shape) → Refused f k ≡ or_else (stops file) (told file) k rest
  stops_broken n rest =
      let broken : fault_in k (slot_at file k) ≡ 0 → ⊥ = λ z. n (fault_is ∙ z) in
      on {b = stops file k} rest (rw (ne_eqb _ _ broken)) (off_eq (Fits (k - 1)) broken (ap (λ (m : ℕ). Refused m k) fault_is))

  pub stops_z : f ≡ 0 → get_or rec 4 0 ≡ code "Z" → (rest : Shape) → Fits (k - 1) ≡ or_else (stops file) (told file) k rest
  stops_z z q rest =
      let right = sym fault_is ∙ z in
      let letter = sym (ap letter_of s) ∙ q in
      on {b = stops file k} rest (rw (eq-eqb _ _ right, eq-eqb _ _ letter)) (on_eq _ right refl)

-- a record that is seen to be a whole T is passed
pub passed_t : (file : List ℕ) (k : ℕ) (rec : List ℕ) → rec ≡ slot_at file k → whole_t k rec ≡ true → WalksOn file k
passed_t file k rec s e = passed file k (fault_in k rec) rec s refl (t_right k rec e) (t_no_z k rec e)
