-- What the whole records of a file tell where it ends.
use Rattle.std.proofs.Common.{ℕ, ◌-◌, ◌≤◌, ◌<◌, ◌≡◌, cond, List, [], eqb, ltb, length, refl, sym, ◌∙◌, arith, ap}
use Prim.Native.Char.{code}
use Rattle.std.proofs.lemmas.Bool.Decides.{nat_tests}
use Rattle.laws.specs.Choice.{on_eq, off_eq, on_lt, off_lt}
use Rattle.structure.specs.Slots.{width_at}
use Rattle.structure.specs.Walk.{letter_of, fault_in}
use Rattle.structure.specs.Whole.{WholeSlot, whole}
use Rattle.judge.specs.Verdict.{refused, sound, unless}
use Rattle.judge.specs.declared.Breach.{Breach}
use Rattle.judge.specs.declared.Verdict.{Verdict}
use Rattle.tally.specs.Record.{breach_in, or_next}
use Rattle.tally.specs.declared.Tally.{Tally}

-- at a whole Z; no rule of Z reads a list
abbrev pub at_z : ℕ → Tally → List ℕ → Verdict
at_z page s z =
    unless (or_next s.broken (breach_in page [] [] s.key (s.next - 1) s.euros z s.next))
    (sound (s.next - 1) s.euros s.cents)

-- where the file has so many bytes, and these are left after its whole records
unfoldable pub conclude_of : ℕ → Tally → ℕ → List ℕ → Verdict
conclude_of page s bytes left =
    cond (ltb 7679744 bytes) (refused 1 0 0)
    (cond (eqb s.stop 0)
    (cond (eqb (fault_in s.next left) 0) (at_z page s left) (refused (fault_in s.next left) s.next 0))
    (refused s.stop s.next 0))

-- a record that is whole and does not fill its slot is a Z
pub record EndsIn (k : ℕ) (slot : List ℕ) : Type 0 where
  pub later : 2 ≤ k
  pub z : letter_of slot ≡ code "Z"
  pub long : length slot ≡ 256

pub ends_in : (k : ℕ) (slot : List ℕ) → fault_in k slot ≡ 0 → length slot < width_at k → EndsIn k slot
ends_in k slot e short =
    let w : WholeSlot k slot = whole k slot e in
    record { later = grind (arith, nat_tests); z = grind (arith, nat_tests); long = grind (arith, nat_tests) }

module _ (page : ℕ) (s : Tally) (left : List ℕ) where
  -- the answer at a whole Z, b being the first broken rule
  module _ {b : Breach} (e : b ≡ or_next s.broken (breach_in page [] [] s.key (s.next - 1) s.euros left s.next)) where
    by_breach : unless b (sound (s.next - 1) s.euros s.cents) ≡ at_z page s left
    by_breach = ap (λ (x : Breach). unless x (sound (s.next - 1) s.euros s.cents)) e

    pub z_broken : {v : Verdict} → (b.number ≡ 0 → ⊥) → v ≡ refused b.number b.rec b.at → v ≡ at_z page s left
    z_broken n h = h ∙ off_eq {y = refused b.number b.rec b.at} _ n refl ∙ by_breach

    pub z_sound : b.number ≡ 0 → sound (s.next - 1) s.euros s.cents ≡ at_z page s left
    z_sound z = on_eq {x = sound (s.next - 1) s.euros s.cents} _ z refl ∙ by_breach

  module _ (bytes : ℕ) {v : Verdict} where
    pub too_long : 7679744 < bytes → v ≡ refused 1 0 0 → v ≡ conclude_of page s bytes left
    unfolding conclude_of
    too_long h e = on_lt _ h e

    module _ (short : bytes ≤ 7679744) where
      pub has_stopped : (s.stop ≡ 0 → ⊥) → v ≡ refused s.stop s.next 0 → v ≡ conclude_of page s bytes left
      unfolding conclude_of
      has_stopped n e = off_lt _ short (off_eq _ n e)

      module _ (goes : s.stop ≡ 0) {f : ℕ} (e : f ≡ fault_in s.next left) where
        pub ends_broken : (f ≡ 0 → ⊥) → v ≡ refused f s.next 0 → v ≡ conclude_of page s bytes left
        unfolding conclude_of
        ends_broken n h =
            off_lt _ short (on_eq _ goes (off_eq _ (λ (z : fault_in s.next left ≡ 0). n (e ∙ z)) (h ∙ ap (λ (m : ℕ). refused m s.next 0) e)))

        pub ends_whole : f ≡ 0 → v ≡ at_z page s left → v ≡ conclude_of page s bytes left
        unfolding conclude_of
        ends_whole z h = off_lt _ short (on_eq _ goes (on_eq _ (sym e ∙ z) h))
