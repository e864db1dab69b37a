-- The turns of sending: a T record that is placed and noted, or named.
use Rattle.std.specs.Prelude.{ℕ, ◌+◌, ◌*◌, ◌≤◌, ◌<◌, ◌≡◌, refl, cond, List, [], ◌∷◌, eqb, length, set}
use Rattle.std.proofs.Common.{ap, eq-eqb, ne_eqb}
use Rattle.laws.specs.Choice.{on_eq, off_eq}
use Rattle.charset.specs.Table.{rep}
use Rattle.forwarding.specs.Text.{lies, t_texts}
use Rattle.forwarding.specs.Forwarded.{fwd}
use Rattle.forwarding.specs.Put.{put_one}
use Rattle.forwarding.specs.Fields.{field_notes}
use Rattle.forwarding.specs.Noted.{Noted, noted_none}
use Rattle.place.specs.Placing.{back_as}
use Rattle.sending.specs.declared.Next.{Next}

-- what T record k leaves, by its first broken rule
pub record Paid (page : ℕ) (t : List ℕ) (k rule : ℕ) (next : Next) (out notes list : List ℕ) (next' : Next) (out' notes' list' : List ℕ) : Type 0 where
  pub at_is : next'.at ≡ cond (eqb rule 0) (next.at + 768) next.at
  pub placed : out' ≡ cond (eqb rule 0) (back_as next.at (next.at + 768) (fwd (rep page) (lies t_texts) 0 t) out) out
  pub noted : Noted (cond (eqb rule 0) (field_notes t_texts next.at t) []) next.notes notes notes' next'.notes
  pub listed : Noted (cond (eqb rule 0) [] ((k * 100 + rule) ∷ [])) next.names list list' next'.names

-- the room that it takes
pub record RoomFor (t : List ℕ) (k rule : ℕ) (next : Next) (out notes list : List ℕ) : Type 0 where
  pub small : (k ≤ 9999) × (rule < 100)
  pub bytes : rule ≡ 0 → (next.at + 768 ≤ length out) × (next.at + 768 ≤ 7679744)
  pub places : rule ≡ 0 → next.notes + length (field_notes t_texts next.at t) ≤ length notes
  pub names : (rule ≡ 0 → ⊥) → next.names < length list

abbrev pub next_are : ℕ → ℕ → ℕ → Next
next_are at notes names = record { at = at; notes = notes; names = names }

module _ (page : ℕ) (t : List ℕ) (k rule : ℕ) (next : Next) (out notes list : List ℕ) where
  pub paid_back : {v : ℕ} → (rule ≡ 0 → ⊥) → next.names < length list → v ≡ k * 100 + rule
      → Paid page t k rule next out notes list (next_are next.at next.notes (next.names + 1)) out notes (set list next.names v)
  paid_back {v} f l e =
      record {
        at_is = off_eq _ f refl;
        placed = off_eq _ f refl;
        noted = rw (ne_eqb rule 0 f) (noted_none next.notes notes);
        listed = rw (ne_eqb rule 0 f) (record { next_is = refl; places_are = rw e (put_one next.names (k * 100 + rule) list l) });
      }

  pub paid_out : {n : ℕ} {ys notes' : List ℕ} → rule ≡ 0 → ys ≡ fwd (rep page) (lies t_texts) 0 t
      → Noted (field_notes t_texts next.at t) next.notes notes notes' n
      → Paid page t k rule next out notes list (next_are (next.at + 768) n next.names) (back_as next.at (next.at + 768) ys out) notes' list
  paid_out {n} {ys} z e h =
      record {
        at_is = on_eq _ z refl;
        placed = on_eq _ z (ap (λ (xs : List ℕ). back_as next.at (next.at + 768) xs out) e);
        noted = rw (eq-eqb rule 0 z) h;
        listed = rw (eq-eqb rule 0 z) (noted_none next.names list);
      }

-- the same of a record by another name
pub paid_is : {page : ℕ} {t t' : List ℕ} {k rule : ℕ} {next next' : Next} {out notes list out' notes' list' : List ℕ} → t ≡ t'
    → Paid page t k rule next out notes list next' out' notes' list' → Paid page t' k rule next out notes list next' out' notes' list'
paid_is e p = rw e at p
