-- What a rule says of record k, by the kind of record: for a Q, a T and a Z whose bytes were found.
use Rattle.std.specs.Prelude.{ℕ, ◌≤◌, ◌<◌, ◌≡◌}
use Rattle.std.proofs.Math.Path.{ap, ap₂}
use Rattle.std.proofs.Common.{◌∙◌}
use mathlib.Core.List.{List}
use Rattle.laws.specs.Choice.{on_eq, off_eq, on_le, off_le}
use Rattle.structure.specs.Slots.{slot_at}
use Rattle.rules.specs.Faults.{q_fault, z_fault}
use Rattle.payments.specs.Rules.{key_of}
use Rattle.payments.specs.Faults.{t_fault}
use Rattle.judge.specs.Content.{fault_of}

module _ (page : ℕ) (file : List ℕ) (n euros : ℕ) (transfer cheque : List ℕ) (k rule r : ℕ) where
  pub of_q : {rec : List ℕ} → k ≡ 0 → rec ≡ slot_at file 0 → r ≡ q_fault page rec rule
      → r ≡ fault_of page file n euros transfer cheque k rule
  unfolding fault_of
  of_q z s e = on_eq _ z (e ∙ ap (λ (rec : List ℕ). q_fault page rec rule) s)

  pub of_t : {first key rec : List ℕ} → (k ≡ 0 → ⊥) → k ≤ n → first ≡ slot_at file 1 → key ≡ key_of first → rec ≡ slot_at file k
      → r ≡ t_fault page transfer cheque key rec rule
      → r ≡ fault_of page file n euros transfer cheque k rule
  unfolding fault_of
  of_t z h f q s e =
      off_eq _ z (on_le _ h (e ∙ ap₂ (λ (key rec : List ℕ). t_fault page transfer cheque key rec rule) (q ∙ ap key_of f) s))

  pub of_z : {rec : List ℕ} → (k ≡ 0 → ⊥) → n < k → rec ≡ slot_at file k → r ≡ z_fault n euros rec rule
      → r ≡ fault_of page file n euros transfer cheque k rule
  unfolding fault_of
  of_z z h s e = off_eq _ z (off_le _ h (e ∙ ap (λ (rec : List ℕ). z_fault n euros rec rule) s))
