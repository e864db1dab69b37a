-- A run of records, and what a rule says of each by its bytes: of all records of a file, or of one that came by itself.
use Rattle.std.specs.Prelude.{ℕ, ◌+◌, ◌*◌, ◌-◌, ◌≤◌, ◌<◌, ◌≡◌, refl, Bool, true, false, cond, List, eqb, leb, length, drop}
use Rattle.std.proofs.Common.{sym, ap₂, subst, ◌∙◌, eqb-true, leb-true, leb-false, length-drop}
use Rattle.std.proofs.Math.Path.{ap}
use native.Mathlib.Omega.{arith}
use Rattle.std.proofs.lemmas.Bool.{eqb-false}
use Rattle.std.proofs.Math.ListN.{take}
use Rattle.std.proofs.Math.Seq.{take_all}
use Rattle.laws.specs.Choice.{on_eq, off_eq, on_le, off_le}
use Rattle.laws.specs.Scan.{first}
use Rattle.records.specs.Places.{record_at}
use Rattle.rules.specs.Faults.{q_fault, z_fault}
use Rattle.payments.specs.Rules.{key_of}
use Rattle.payments.specs.Faults.{t_fault}
use Rattle.structure.specs.Slots.{width_at, slot_at, q_long, t_long, z_long, place_in}
use Rattle.judge.specs.First.{faulty, told_at, none}
use Rattle.judge.specs.Content.{fault_of, rule_from, rule_end, content_of}
use Rattle.judge.specs.declared.Breach.{Breach}

-- how long a whole record k is, in a file with so many payments
abbrev pub length_at : ℕ → ℕ → ℕ
length_at payments k = cond (eqb k 0) 256 (cond (leb k payments) 768 256)

pub long_q : (payments k : ℕ) → k ≡ 0 → length_at payments k ≡ 256
long_q payments k z = sym (on_eq {x = 256} _ z refl)

pub long_t : (payments k : ℕ) → (k ≡ 0 → ⊥) → k ≤ payments → length_at payments k ≡ 768
long_t payments k z h = sym (off_eq 256 z (on_le {x = 768} 256 h refl))

pub long_z : (payments k : ℕ) → (k ≡ 0 → ⊥) → payments < k → length_at payments k ≡ 256
long_z payments k z h = sym (off_eq 256 z (off_le {y = 256} 768 h refl))

-- what a rule says of record k, by its bytes: `fault_of` of Content with the record and the key handed in
unfoldable pub slot_fault : ℕ → List ℕ → List ℕ → List ℕ → ℕ → ℕ → List ℕ → ℕ → ℕ → ℕ
slot_fault page transfer cheque key payments euros slot k rule =
    cond (eqb k 0) (q_fault page slot rule)
    (cond (leb k payments) (t_fault page transfer cheque key slot rule) (z_fault payments euros slot rule))

-- the slot of record k in bytes that stand from place skip of a file on
unfoldable pub slot_in : List ℕ → ℕ → ℕ → List ℕ
slot_in bytes skip k = take (width_at k) (drop (record_at k - skip) bytes)

-- what a rule says of record k there, with record 1's bytes from T3 to T4b as the key
abbrev pub run_fault : ℕ → List ℕ → List ℕ → List ℕ → ℕ → ℕ → List ℕ → ℕ → ℕ → ℕ → ℕ
run_fault page transfer cheque key payments euros bytes skip k rule =
    slot_fault page transfer cheque key payments euros (slot_in bytes skip k) k rule

-- records from .. up to below to lie there, each whole
pub record Lies (bytes : List ℕ) (skip payments from to : ℕ) : Type 0 where
  pub few : to ≤ 10001
  pub low : (k : ℕ) → from ≤ k → k < to → skip ≤ record_at k
  pub there : (k : ℕ) → from ≤ k → k < to → record_at k - skip ≤ length bytes
  pub long : (k : ℕ) → from ≤ k → k < to → length (slot_in bytes skip k) ≡ length_at payments k

-- the first broken rule of the first of these records that breaks one
abbrev pub first_in : (ℕ → ℕ → ℕ) → (ℕ → ℕ) → (ℕ → ℕ) → ℕ → ℕ → Breach
first_in F lo hi from to = first (faulty F lo hi) (told_at F lo hi) none from to

-- the slot as a part of the bytes, where they end in it and where they do not
pub in_short : (bytes : List ℕ) (skip k at width : ℕ) → at ≡ record_at k - skip → width ≡ width_at k → length bytes - at ≤ width
    → take (length bytes - at) (drop at bytes) ≡ slot_in bytes skip k
unfolding slot_in
in_short bytes skip k at width p q h =
    take_all (length bytes - at) (drop at bytes) (omega (arith, length-drop at bytes))
    ∙ sym (take_all width (drop at bytes) (omega (arith, length-drop at bytes)))
    ∙ ap₂ (λ (w a : ℕ). take w (drop a bytes)) q p

pub in_full : (bytes : List ℕ) (skip k at width : ℕ) → at ≡ record_at k - skip → width ≡ width_at k
    → take (at + width - at) (drop at bytes) ≡ slot_in bytes skip k
unfolding slot_in
in_full bytes skip k at width p q =
    let h : at + width - at ≡ width = omega arith in
    ap (λ (w : ℕ). take w (drop at bytes)) h ∙ ap₂ (λ (w a : ℕ). take w (drop a bytes)) q p

-- all records of a file
pub of_file : (file : List ℕ) (k : ℕ) → slot_in file 0 k ≡ slot_at file k
unfolding slot_in slot_at
of_file file k =
    let z : record_at k - 0 ≡ record_at k = omega arith in
    ap (λ (a : ℕ). take (width_at k) (drop a file)) z

module _ (file : List ℕ) (n : ℕ) (long : length file ≡ 512 + 768 * n) (few : n ≤ 9999) where
  record_long : (k : ℕ) → k < n + 2 → length (slot_at file k) ≡ length_at n k
  record_long k h = go (eqb k 0) (leb k n) refl refl
    where
      go : (a c : Bool) → eqb k 0 ≡ a → leb k n ≡ c → length (slot_at file k) ≡ cond a 256 (cond c 768 256)
      go true c p q = ap (λ (j : ℕ). length (slot_at file j)) (eqb-true k 0 p) ∙ q_long file n long
      go false true p q = t_long file n long k (omega (arith, eqb-false k 0 p)) (leb-true k n q)
      go false false p q =
          let e : n + 1 ≡ k = omega (arith, leb-false k n q) in
          subst (λ (j : ℕ). length (slot_at file j) ≡ 256) e (z_long file n long)

  pub file_lies : Lies file 0 n 0 (n + 2)
  file_lies =
      record {
        few = omega arith;
        low = λ k a c. omega arith;
        there = λ k a c. omega (arith, place_in file n long k (omega arith));
        long = λ k a c. ap length (of_file file k) ∙ record_long k c;
      }

pub fault_in_file : (page : ℕ) (file : List ℕ) (n euros : ℕ) (transfer cheque key : List ℕ) (k rule : ℕ) → key ≡ key_of (slot_at file 1)
    → run_fault page transfer cheque key n euros file 0 k rule ≡ fault_of page file n euros transfer cheque k rule
unfolding slot_fault fault_of
fault_in_file page file n euros transfer cheque key k rule e = rw (of_file file k, e) (go (eqb k 0) refl)
  where
    go : (a : Bool) → eqb k 0 ≡ a
        → cond a (q_fault page (slot_at file k) rule) (cond (leb k n) (t_fault page transfer cheque (key_of (slot_at file 1)) (slot_at file k) rule) (z_fault n euros (slot_at file k) rule))
        ≡ cond a (q_fault page (slot_at file 0) rule) (cond (leb k n) (t_fault page transfer cheque (key_of (slot_at file 1)) (slot_at file k) rule) (z_fault n euros (slot_at file k) rule))
    go true p = ap (λ (j : ℕ). q_fault page (slot_at file j) rule) (eqb-true k 0 p)
    go false p = refl

pub content_in_file : (page : ℕ) (file : List ℕ) (n euros : ℕ) (transfer cheque key : List ℕ) → key ≡ key_of (slot_at file 1)
    → first_in (run_fault page transfer cheque key n euros file 0) (rule_from n) (rule_end n) 0 (n + 2) ≡ content_of page file n euros transfer cheque
unfolding content_of
content_in_file page file n euros transfer cheque key e i =
    first_in (λ (k rule : ℕ). fault_in_file page file n euros transfer cheque key k rule e i) (rule_from n) (rule_end n) 0 (n + 2)

-- a record by itself
module _ (slot : List ℕ) (k : ℕ) (short : length slot ≤ width_at k) where
  pub by_itself : slot_in slot (record_at k) k ≡ slot
  unfolding slot_in
  by_itself =
      let z : record_at k - record_at k ≡ 0 = omega arith in
      ap (λ (a : ℕ). take (width_at k) (drop a slot)) z ∙ take_all (width_at k) slot short

  pub one_lies : (payments : ℕ) → k ≤ 10000 → length slot ≡ length_at payments k → Lies slot (record_at k) payments k (k + 1)
  one_lies payments few long =
      record {
        few = omega arith;
        low = λ j a c. let e : k ≡ j = omega arith in subst (λ (i : ℕ). record_at k ≤ record_at i) e (omega arith);
        there = λ j a c. let e : k ≡ j = omega arith in subst (λ (i : ℕ). record_at i - record_at k ≤ length slot) e (omega arith);
        long = λ j a c.
            let e : k ≡ j = omega arith in
            subst (λ (i : ℕ). length (slot_in slot (record_at k) i) ≡ length_at payments i) e (ap length by_itself ∙ long);
      }
