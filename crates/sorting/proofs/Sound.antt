-- The kept file is sound: a kept record breaks no rule, rule 21 by the first kept record asks what it asks by record 1, and
-- the fresh Z counts and sums the kept records.
use Rattle.std.specs.Prelude.{ℕ, ◌+◌, ◌≤◌, ◌<◌, ◌≡◌, refl, Bool, true, false, not, cond, List, [], eqb, length, get_or}
use Prim.Native.Char.{code}
use Rattle.std.proofs.Common.{sym, ap, ◌∙◌, inl, inr, arith, eqb-true}
use borrow.Author.Tests.{not-false}
use Rattle.laws.specs.Choice.{off_eq}
use Rattle.laws.specs.Scan.{Means, means}
use Rattle.laws.specs.Sums.{sum_of}
use Rattle.records.specs.Inside.{part_le}
use Rattle.records.specs.declared.TField.TheVariants.{T3, T4b}
use Rattle.records.specs.declared.ZField.TheVariants.{Z3, Z4}
use Rattle.fields.specs.Class.{same}
use Rattle.fields.specs.Laws.{same_is, dec_lt}
use Rattle.rules.specs.Faults.{q_fault}
use Rattle.rules.specs.Z.{in_z}
use Rattle.payments.specs.Rules.{in_t, key_of, key_t3, key_t4b, rule21}
use Rattle.payments.specs.Faults.{t_fault}
use Rattle.payments.specs.Key.{key_t3_is, key_t4b_is}
use Rattle.structure.specs.Walk.{letter_of, allowed, fault_in}
use Rattle.structure.specs.Whole.{whole, no_fault}
use Rattle.judge.specs.Sums.{euros}
use Rattle.judge.specs.Records.{Lengths}
use Rattle.judge.specs.ByRecords.{Heads, Keeps}
use Rattle.sorting.specs.Kept.{first_of, kept, fresh_z}
use Rattle.sorting.specs.Fresh.{ZRight, z_keeps, fresh_long, fresh_letter, fresh_fits, fresh_right}
use Rattle.sorting.specs.Lists.{sums_add, counts_add, kept_long, kept_from}

-- a T record that is whole at one place is whole at another
t_fits : (a b : ℕ) (t : List ℕ) → fault_in a t ≡ 0 → letter_of t ≡ code "T" → 1 ≤ b → fault_in b t ≡ 0
t_fits a b t h l low =
    let w = whole a t h in
    no_fault b t
    (record {
      here = ap (allowed b) l ∙ sym (off_eq _ (λ (e : b ≡ 0). omega arith) refl);
      digits = w.digits;
      long = w.long;
      last = w.last;
    })

-- what is told of a record's rules: 0 only where each holds, and then of each
module _ (page : ℕ) (transfer cheque key t : List ℕ) where
  breaks : ℕ → Bool
  breaks rule = not (eqb (t_fault page transfer cheque key t rule) 0)

  pub none_holds : first_of page transfer cheque key t ≡ 0 → (rule : ℕ) → 20 ≤ rule → rule < 36 → t_fault page transfer cheque key t rule ≡ 0
  unfolding first_of breaks
  none_holds e rule a b = by (first_of page transfer cheque key t) e (means breaks (λ (r : ℕ). r) 0 20 36)
    where
      by : (v : ℕ) → v ≡ 0 → Means breaks (λ (r : ℕ). r) 0 20 36 v → t_fault page transfer cheque key t rule ≡ 0
      by v e (inl p) = eqb-true (t_fault page transfer cheque key t rule) 0 (not-false _ (p.1 rule a b))
      by v e (inr p) = absurd (omega (arith, p.answer, p.above))

  pub first_below : first_of page transfer cheque key t < 36
  unfolding first_of breaks
  first_below = by (first_of page transfer cheque key t) (means breaks (λ (r : ℕ). r) 0 20 36)
    where
      by : (v : ℕ) → Means breaks (λ (r : ℕ). r) 0 20 36 v → v < 36
      by v (inl p) = omega (arith, p.0)
      by v (inr p) = omega (arith, p.answer, p.below)

  pub first_above : (first_of page transfer cheque key t ≡ 0 → ⊥) → 20 ≤ first_of page transfer cheque key t
  unfolding first_of breaks
  first_above f = by (first_of page transfer cheque key t) (means breaks (λ (r : ℕ). r) 0 20 36) f
    where
      by : (v : ℕ) → Means breaks (λ (r : ℕ). r) 0 20 36 v → (v ≡ 0 → ⊥) → 20 ≤ v
      by v (inl p) f = absurd (f p.0)
      by v (inr p) f = omega (arith, p.answer, p.above)

-- rule 21 reads T3 and T4b of the key, and no other rule reads the key
key_alike : (page : ℕ) (transfer cheque key key' t : List ℕ) (rule : ℕ) → key_t3 key ≡ key_t3 key' → key_t4b key ≡ key_t4b key'
    → t_fault page transfer cheque key t rule ≡ t_fault page transfer cheque key' t rule
unfolding t_fault rule21
key_alike page transfer cheque key key' t rule p q = rw (p, q)

key_kept : (key t : List ℕ) → rule21 key t ≡ 0 → (key_t3 (key_of t) ≡ key_t3 key) × (key_t4b (key_of t) ≡ key_t4b key)
unfolding rule21
key_kept key t e =
    let w = two (same (in_t T3 t) (key_t3 key)) (same (in_t T4b t) (key_t4b key)) e in
    (key_t3_is t ∙ same_is (in_t T3 t) (key_t3 key) w.0, key_t4b_is t ∙ same_is (in_t T4b t) (key_t4b key) w.1)
  where
    two : (a b : Bool) → ◌≡◌ {A = ℕ} (cond a (cond b 0 16) 5) 0 → (a ≡ true) × (b ≡ true)
    two true true q = (refl, refl)
    two true false q = absurd (omega arith)
    two false b q = absurd (omega arith)

-- what sorting asks of a file before it sorts: all but the T rules
pub record Sortable (page : ℕ) (q : List ℕ) (ts : List (List ℕ)) (z : List ℕ) (sized : Lengths q ts z) : Type 0 where
  pub heads : Heads q ts z sized
  pub q_rules : (rule : ℕ) → 10 ≤ rule → rule < 17 → q_fault page q rule ≡ 0
  pub z_right : ZRight z (length ts) (sum_of euros ts)

module _ (page : ℕ) (transfer cheque q : List ℕ) (ts : List (List ℕ)) (z : List ℕ) (sized : Lengths q ts z) where
  abbrev rule : List ℕ → ℕ
  rule t = first_of page transfer cheque (key_of (get_or ts 0 [])) t

  abbrev ks : List (List ℕ)
  ks = kept rule ts

  abbrev fz : List ℕ
  fz = fresh_z z (length ks) (sum_of euros ks)

  pub kept_sized : Lengths q ks fz
  kept_sized = record { q_size = sized.q_size; t_size = kept_long rule ts sized.t_size; z_size = fresh_long z (length ks) (sum_of euros ks) sized.z_size }

  module _ (s : Sortable page q ts z sized) (some : 1 ≤ length ks) where
    kept_heads : Heads q ks fz kept_sized
    kept_heads =
        record {
          some = some;
          most = omega (arith, s.heads.most, counts_add rule ts);
          q_head = s.heads.q_head;
          t_head = λ k l.
              let f = kept_from rule ts k l in
              t_fits (f.place + 1) (k + 1) (get_or ks k []) (ap (fault_in (f.place + 1)) (sym f.there) ∙ s.heads.t_head f.place f.below) (letter k l) (omega arith);
          t_letter = letter;
          z_head = fresh_fits z (length ks) (sum_of euros ks) sized.z_size (length ts + 1) (length ks + 1) s.heads.z_head s.heads.z_letter (omega arith);
          z_letter = fresh_letter z (length ks) (sum_of euros ks) sized.z_size ∙ s.heads.z_letter;
        }
      where
        letter : (k : ℕ) → k < length ks → letter_of (get_or ks k []) ≡ code "T"
        letter k l = let f = kept_from rule ts k l in ap letter_of (sym f.there) ∙ s.heads.t_letter f.place f.below

    -- the first kept record has record 1's T3 and T4b
    same_key : (key_t3 (key_of (get_or ks 0 [])) ≡ key_t3 (key_of (get_or ts 0 []))) × (key_t4b (key_of (get_or ks 0 [])) ≡ key_t4b (key_of (get_or ts 0 [])))
    unfolding t_fault
    same_key =
        key_kept (key_of (get_or ts 0 [])) (get_or ks 0 [])
        (none_holds page transfer cheque (key_of (get_or ts 0 [])) (get_or ks 0 []) (kept_from rule ts 0 some).right 21 (omega arith) (omega arith))

    pub kept_keeps : Keeps q ks fz kept_sized page transfer cheque
    kept_keeps =
        let k = same_key in
        let l3 = dec_lt (in_z Z3 z) 15 (part_le _ z) in
        let l4 = dec_lt (in_z Z4 z) 15 (part_le _ z) in
        record {
          heads = kept_heads;
          q_rules = s.q_rules;
          t_rules = λ j l r a b.
              key_alike page transfer cheque (key_of (get_or ks 0 [])) (key_of (get_or ts 0 [])) (get_or ks j []) r k.0 k.1
              ∙ none_holds page transfer cheque (key_of (get_or ts 0 [])) (get_or ks j []) (kept_from rule ts j l).right r a b;
          z_rules = λ r a b.
              z_keeps fz (length ks) (sum_of euros ks)
              (fresh_right z (length ks) (sum_of euros ks) sized.z_size s.z_right.z5_spaces
              (omega (arith, l4, s.z_right.counts, counts_add rule ts)) (omega (arith, l3, s.z_right.sums, sums_add rule euros ts)))
              r;
        }
