-- What the whole records of a file have shown so far, as one more is added.
use Rattle.std.proofs.Common.{ℕ, ◌+◌, ◌*◌, ◌≤◌, ◌<◌, ◌≡◌, Bool, true, false, ◌&&◌, cond, List, eqb, leb, ltb, replicate, sym, ap, ◌∙◌, arith}
use Rattle.std.proofs.lemmas.Bool.Decides.{nat_tests}
use Rattle.laws.specs.Choice.{on_eq, off_eq}
use Rattle.payments.specs.Rules.{key_of}
use Rattle.structure.specs.Walk.{fault_in}
use Rattle.judge.specs.First.{none}
use Rattle.judge.specs.declared.Breach.{Breach}
use Rattle.judge.specs.Sums.{euros, cents, file_number, euros_lt, cents_lt}
use Rattle.forwarding.specs.Text.{q_texts, t_texts}
use Rattle.forwarding.specs.Fields.{field_changes, q_few, t_few}
use Rattle.tally.specs.Record.{breach_in, or_next}
use Rattle.tally.specs.declared.Tally.{Tally}

abbrev pub fresh : Tally
fresh =
    record { next = 0; stop = 0; broken = none; number = 0; euros = 0; cents = 0; changes = 0; key = replicate 21 0 }

-- record 1 brings the key
abbrev pub key_at : ℕ → List ℕ → List ℕ → List ℕ
key_at k key slot = cond (eqb k 1) (key_of slot) key

-- what the walk refuses at a slot that is full, or 0; where record 10,000 fills its slot of 768 bytes, the file has more than
-- 7,679,744
abbrev pub stop_at : ℕ → List ℕ → ℕ
stop_at k slot = cond (eqb k 10000) 1 (fault_in k slot)

abbrev pub stopped : Tally → ℕ → Tally
stopped s refusal =
    record {
      next = s.next;
      stop = refusal;
      broken = s.broken;
      number = s.number;
      euros = s.euros;
      cents = s.cents;
      changes = s.changes;
      key = s.key;
    }

abbrev pub with_q : ℕ → List ℕ → List ℕ → Tally → List ℕ → Tally
with_q page transfer cheque s q =
    record {
      next = 1;
      stop = s.stop;
      broken = or_next s.broken (breach_in page transfer cheque s.key 0 0 q 0);
      number = file_number q;
      euros = s.euros;
      cents = s.cents;
      changes = s.changes + field_changes q_texts q;
      key = s.key;
    }

abbrev pub with_t : ℕ → List ℕ → List ℕ → Tally → List ℕ → Tally
with_t page transfer cheque s t =
    record {
      next = s.next + 1;
      stop = s.stop;
      broken = or_next s.broken (breach_in page transfer cheque (key_at s.next s.key t) s.next 0 t s.next);
      number = s.number;
      euros = s.euros + euros t;
      cents = s.cents + cents t;
      changes = s.changes + field_changes t_texts t;
      key = key_at s.next s.key t;
    }

-- the next record fills its slot
unfoldable pub settle_of : ℕ → List ℕ → List ℕ → Tally → List ℕ → Tally
settle_of page transfer cheque s slot =
    cond (eqb (stop_at s.next slot) 0)
    (cond (eqb s.next 0) (with_q page transfer cheque s slot) (with_t page transfer cheque s slot))
    (stopped s (stop_at s.next slot))

-- the sums are of `next` records at most, so that one more can be added
abbrev pub is_steady : Tally → Bool
is_steady s =
    cond (ltb 10000 s.next) false
    ((leb s.euros (s.next * 100000000000000) && leb s.cents (s.next * 100)) && leb s.changes (s.next * 768))

pub record Steady (s : Tally) : Type 0 where
  pub few : s.next ≤ 10000
  pub euros_fit : s.euros ≤ s.next * 100000000000000
  pub cents_fit : s.cents ≤ s.next * 100
  pub changes_fit : s.changes ≤ s.next * 768

pub steady : (s : Tally) → is_steady s ≡ true → Steady s
steady s e =
    record {
      few = grind (arith, nat_tests);
      euros_fit = grind (arith, nat_tests);
      cents_fit = grind (arith, nat_tests);
      changes_fit = grind (arith, nat_tests);
    }

pub steady_is : (s : Tally) → Steady s → is_steady s ≡ true
steady_is s h = grind (arith, nat_tests)

module _ (page : ℕ) (transfer cheque : List ℕ) (s : Tally) (slot : List ℕ) where
  -- one more record, and the sums go on fitting
  pub steady_settle : Steady s → Steady (settle_of page transfer cheque s slot)
  unfolding settle_of
  steady_settle h =
      record {
        few = grind (arith, nat_tests);
        euros_fit = grind (arith, nat_tests, euros_lt);
        cents_fit = grind (arith, nat_tests, cents_lt);
        changes_fit = grind (arith, nat_tests, q_few, t_few);
      }

-- record 10,000 never goes on
pub below_last : (k : ℕ) (slot : List ℕ) {stop : ℕ} → k ≤ 10000 → stop ≡ stop_at k slot → stop ≡ 0 → k < 10000
below_last k slot h e z = grind (arith, nat_tests)

module _ (page : ℕ) (transfer cheque : List ℕ) (s : Tally) (slot : List ℕ) where
  pub told_q : {b : Breach} {n c : ℕ} → b ≡ or_next s.broken (breach_in page transfer cheque s.key 0 0 slot 0) → n ≡ file_number slot
      → c ≡ field_changes q_texts slot
      → record { next = 1; stop = s.stop; broken = b; number = n; euros = s.euros; cents = s.cents; changes = s.changes + c; key = s.key }
      ≡ with_q page transfer cheque s slot
  told_q p q r i =
      record {
        next = 1;
        stop = s.stop;
        broken = p i;
        number = q i;
        euros = s.euros;
        cents = s.cents;
        changes = s.changes + r i;
        key = s.key;
      }

  pub told_t : {key : List ℕ} {b : Breach} {e c n : ℕ} → key ≡ key_at s.next s.key slot
      → b ≡ or_next s.broken (breach_in page transfer cheque key s.next 0 slot s.next) → e ≡ euros slot → c ≡ cents slot
      → n ≡ field_changes t_texts slot
      → record {
        next = s.next + 1;
        stop = s.stop;
        broken = b;
        number = s.number;
        euros = s.euros + e;
        cents = s.cents + c;
        changes = s.changes + n;
        key = key;
      }
      ≡ with_t page transfer cheque s slot
  told_t k p e c n i =
      record {
        next = s.next + 1;
        stop = s.stop;
        broken = (p ∙ ap (λ (key : List ℕ). or_next s.broken (breach_in page transfer cheque key s.next 0 slot s.next)) k) i;
        number = s.number;
        euros = s.euros + e i;
        cents = s.cents + c i;
        changes = s.changes + n i;
        key = k i;
      }

  module _ {stop : ℕ} (e : stop ≡ stop_at s.next slot) where
    pub settled_stop : (stop ≡ 0 → ⊥) → stopped s stop ≡ settle_of page transfer cheque s slot
    unfolding settle_of
    settled_stop n = off_eq _ (λ (z : stop_at s.next slot ≡ 0). n (e ∙ z)) (ap (stopped s) e)

    module _ (z : stop ≡ 0) {t : Tally} where
      pub settled_q : s.next ≡ 0 → t ≡ with_q page transfer cheque s slot → t ≡ settle_of page transfer cheque s slot
      unfolding settle_of
      settled_q q h = on_eq _ (sym e ∙ z) (on_eq _ q h)

      pub settled_t : (s.next ≡ 0 → ⊥) → t ≡ with_t page transfer cheque s slot → t ≡ settle_of page transfer cheque s slot
      unfolding settle_of
      settled_t q h = on_eq _ (sym e ∙ z) (off_eq _ q h)
