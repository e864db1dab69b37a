-- A file that breaks no rule: all its payments are kept, and the kept file is the file.
use Rattle.std.specs.Prelude.{ℕ, ◌+◌, ◌-◌, ◌≤◌, ◌<◌, ◌≡◌, refl, Bool, true, false, ◌&&◌, cond, length}
use Rattle.std.proofs.Common.{ap₂, ◌∙◌, eq-eqb, sym, ap, not, List, [], arith, get_or}
use Rattle.laws.specs.Steps.{empty}
use Rattle.laws.specs.Sums.{sum_of}
use Rattle.records.specs.declared.TField.TheVariants.{T14a, T14b}
use Rattle.fields.specs.Class.{all_of}
use Rattle.fields.specs.declared.Class.TheVariants.{Digit}
use Rattle.payments.specs.Rules.{in_t, key_of, rule33}
use Rattle.payments.specs.Faults.{t_fault}
use Rattle.structure.specs.Slots.{slot_at}
use Rattle.structure.specs.Walk.{structure_of}
use Rattle.structure.specs.Shape.{Fits}
use Rattle.judge.specs.Content.{content_of}
use Rattle.judge.specs.Sums.{euros, euro_sum, cent_sum}
use Rattle.judge.specs.Records.{file_of}
use Rattle.judge.specs.ByRecords.{Keeps, slot_t, sum_by_records, sound_by_records}
use Rattle.judge.specs.Verdict.{verdict_of}
use Rattle.judge.specs.Told.{told_sound}
use Rattle.judge.specs.declared.Verdict.{Verdict}
use Rattle.forwarding.specs.Forwarded.{notes_of}
use Rattle.sorting.specs.Kept.{first_of, fresh_z, t_records, rule_in, kept_in, returned_in, kept_file}
use Rattle.sorting.specs.Sorted.{in_digits, no_amount, shares, sorted_as, goes_on}
use Rattle.sorting.specs.Fresh.{ZRight, z_right, fresh_same}
use Rattle.sorting.specs.Lists.{counts_add, kept_all}
use Rattle.sorting.specs.Frame.{lengths, file_is, records_count}
use Rattle.sorting.proofs.Outcome.{finds_none}

-- rule 33 holds only of amounts in digits
pub amount_digits : (t : List ℕ) → rule33 t ≡ 0 → in_digits t ≡ true
unfolding rule33
amount_digits t e = go (all_of Digit (in_t T14a t)) (all_of Digit (in_t T14b t)) _ e
  where
    go : (a b : Bool) (rest : ℕ) → cond a (cond b rest 472) 458 ≡ 0 → a && b ≡ true
    go true true rest q = refl
    go true false rest q = absurd (omega arith)
    go false b rest q = absurd (omega arith)

module _ (file : List ℕ) (n : ℕ) (e : structure_of file ≡ Fits n) where
  abbrev pub z_slot : List ℕ
  z_slot = slot_at file (length (t_records file) + 1)

  pub slot_is : (k : ℕ) → k < n → slot_at file (k + 1) ≡ get_or (t_records file) k []
  slot_is k l =
      ap (λ (f : List ℕ). slot_at f (k + 1)) (file_is file n e)
      ∙ slot_t (slot_at file 0) (t_records file) z_slot (lengths file n e) k (omega (arith, records_count file n e))

  pub sum_is : euro_sum file n ≡ sum_of euros (t_records file)
  sum_is =
      ap₂ euro_sum (file_is file n e) (sym (records_count file n e))
      ∙ sum_by_records (slot_at file 0) (t_records file) z_slot (lengths file n e)

  module _ (page : ℕ) (transfer cheque : List ℕ) where
    -- a file in which the judge finds no broken rule
    pub sound_keeps : (verdict_of page file transfer cheque).number ≡ 0 → Keeps (slot_at file 0) (t_records file) z_slot (lengths file n e) page transfer cheque
    sound_keeps z =
        (sound_by_records (slot_at file 0) (t_records file) z_slot (lengths file n e) page transfer cheque).0
        (ap (λ (f : List ℕ). (verdict_of page f transfer cheque).number) (sym (file_is file n e)) ∙ z)

    pub content_sound : (content_of page file n (euro_sum file n) transfer cheque).number ≡ 0 → (verdict_of page file transfer cheque).number ≡ 0
    content_sound z =
        sym
        (ap (λ (v : Verdict). v.number)
        (told_sound page file transfer cheque n (euro_sum file n) (cent_sum file n) (content_of page file n (euro_sum file n) transfer cheque) e refl refl refl z))

    -- where all are kept and Z is right, the kept file is the file
    pub kept_same : kept_in page file transfer cheque ≡ t_records file → ZRight z_slot (length (t_records file)) (sum_of euros (t_records file))
        → kept_file page file transfer cheque ≡ file
    unfolding kept_file
    kept_same all r =
        ap (λ (ts : List (List ℕ)). file_of (slot_at file 0) ts (fresh_z z_slot (length ts) (sum_of euros ts))) all
        ∙ ap (file_of (slot_at file 0) (t_records file)) (fresh_same z_slot (length (t_records file)) (sum_of euros (t_records file)) (lengths file n e).z_size r)
        ∙ sym (file_is file n e)

    module _ (s : Keeps (slot_at file 0) (t_records file) z_slot (lengths file n e) page transfer cheque) where
      t_holds : (k : ℕ) → k < n → (rule : ℕ) → 20 ≤ rule → rule < 36 → t_fault page transfer cheque (key_of (slot_at file 1)) (get_or (t_records file) k []) rule ≡ 0
      t_holds k l rule a b =
          ap (λ (t : List ℕ). t_fault page transfer cheque (key_of t) (get_or (t_records file) k []) rule) (slot_is 0 (omega arith))
          ∙ s.t_rules k (omega (arith, records_count file n e)) rule a b

      pub amounts_right : no_amount file n ≡ 0
      unfolding no_amount t_fault
      amounts_right =
          finds_none _ _ 0 1 (n + 1)
          (λ k a b.
          let back : k - 1 + 1 ≡ k = omega arith in
          let below : k - 1 < n = omega arith in
          let t : slot_at file k ≡ get_or (t_records file) (k - 1) [] = ap (slot_at file) (sym back) ∙ slot_is (k - 1) below in
          ap not (amount_digits (slot_at file k) (ap rule33 t ∙ t_holds (k - 1) below 33 (omega arith) (omega arith))))

      pub all_kept : kept_in page file transfer cheque ≡ t_records file
      unfolding first_of
      all_kept =
          kept_all (rule_in page file transfer cheque) (t_records file)
          (λ k l. finds_none _ _ 0 20 36 (λ rule a b. ap not (eq-eqb _ 0 (t_holds k (omega (arith, records_count file n e)) rule a b))))

      pub none_returned : returned_in page file transfer cheque ≡ []
      none_returned =
          empty (returned_in page file transfer cheque)
          (omega (arith, counts_add (rule_in page file transfer cheque) (t_records file), ap length all_kept))

      pub kept_is_file : kept_file page file transfer cheque ≡ file
      kept_is_file = kept_same all_kept (z_right z_slot (length (t_records file)) (sum_of euros (t_records file)) s.z_rules)

      pub goes_whole : {changes sum : ℕ} → changes ≡ length (notes_of page file) → sum ≡ euro_sum file n
          → sorted_as 0 0 changes (shares n 0) (shares sum 0) ≡ goes_on page file transfer cheque
      goes_whole {changes} {sum} p q =
          let c : changes ≡ length (notes_of page (kept_file page file transfer cheque)) = p ∙ ap (λ (f : List ℕ). length (notes_of page f)) (sym kept_is_file) in
          let m : n ≡ length (kept_in page file transfer cheque) = sym (ap length all_kept ∙ records_count file n e) in
          let r : 0 ≡ length (returned_in page file transfer cheque) = sym (ap length none_returned) in
          let k : sum ≡ sum_of euros (kept_in page file transfer cheque) = q ∙ sum_is ∙ ap (sum_of euros) (sym all_kept) in
          let b : 0 ≡ sum_of euros (returned_in page file transfer cheque) = sym (ap (sum_of euros) none_returned) in
          λ i. sorted_as 0 0 (c i) (shares (m i) (r i)) (shares (k i) (b i))
