-- A file that goes on: what its answer means. Its kept file is sound, and is the file itself where nothing is returned.
use Rattle.std.specs.Prelude.{◌≡◌, Bool, leb, get_or, Result, Ok, Err, IfErr}
use Rattle.std.proofs.Common.{sym, ◌∙◌, inl, inr, arith, ℕ, ◌+◌, ◌≤◌, ◌<◌, refl, ap, subst, true, false, cond, List, [], eqb-true, ne_eqb, eqb, length}
use borrow.Author.Tests.{eqb-false, lt-leb}
use Rattle.laws.specs.Sums.{sum_of}
use Rattle.charset.specs.Table.{is_page}
use Rattle.rules.specs.Faults.{q_fault, z_fault}
use Rattle.payments.specs.Rules.{key_of}
use Rattle.structure.specs.Slots.{slot_at}
use Rattle.structure.specs.Walk.{structure_of}
use Rattle.structure.specs.Fits.{Tells, tells}
use Rattle.structure.specs.Shape.{Shape, Fits, Refused}
use Rattle.judge.specs.Content.{fault_of, rule_from, rule_end, rule_real}
use Rattle.judge.specs.Meaning.{rules_hold}
use Rattle.judge.specs.ByKind.{of_q, of_z}
use Rattle.judge.specs.Sums.{euros, euro_sum}
use Rattle.judge.specs.ByRecords.{structure_by_records, sound_by_records}
use Rattle.judge.specs.Verdict.{verdict_of}
use Rattle.sorting.specs.Kept.{first_of, kept, t_records, rule_in, kept_in, returned_in, kept_by, kept_file}
use Rattle.judge.specs.Refusal.{number_of}
use Rattle.judge.specs.declared.Refusal.{Refusal}
use Rattle.sorting.specs.Answer.{sorted_of}
use Rattle.sorting.specs.declared.Going.{Going}
use Rattle.sorting.specs.Sorted.{unsorted, goes_on, no_amount, rule_at, behind_q, sort_by, sort_of}
use Rattle.sorting.specs.Fresh.{ZRight, z_right}
use Rattle.sorting.specs.Lists.{kept_whole}
use Rattle.sorting.proofs.Sound.{Sortable, kept_sized, kept_keeps}
use Rattle.sorting.specs.Frame.{fit, lengths, file_is, records_count, z_is}
use Rattle.sorting.proofs.WholeFile.{z_slot, slot_is, sum_is, kept_same}
use Rattle.sorting.specs.declared.Sorted.{Sorted}

pub record GoesOn (page : ℕ) (file transfer cheque : List ℕ) (n : ℕ) : Type 0 where
  pub page_is : is_page page ≡ true
  pub fits : structure_of file ≡ Fits n
  pub q_right : rule_at page file n transfer cheque 0 ≡ 0
  pub amounts : no_amount file n ≡ 0
  pub z_right : rule_at page file n transfer cheque (n + 1) ≡ 0
  pub some : 1 ≤ length (kept_in page file transfer cheque)
  pub answer : sort_of page file transfer cheque ≡ goes_on page file transfer cheque

module _ (page : ℕ) (file transfer cheque : List ℕ) where
  -- behind Q, by its three tests
  module _ (n : ℕ) (there : is_page page ≡ true) (shape : structure_of file ≡ Fits n) where
    behind : rule_at page file n transfer cheque 0 ≡ 0 → sort_of page file transfer cheque ≡ behind_q page file n transfer cheque
        → (sort_of page file transfer cheque).number ≡ 0 → GoesOn page file transfer cheque n
    unfolding behind_q
    behind q_right is z =
        go (eqb (no_amount file n) 0) (eqb (rule_at page file n transfer cheque (n + 1)) 0) (eqb (length (kept_in page file transfer cheque)) 0) refl refl refl is z
      where
        go : (a b c : Bool) → eqb (no_amount file n) 0 ≡ a → eqb (rule_at page file n transfer cheque (n + 1)) 0 ≡ b → eqb (length (kept_in page file transfer cheque)) 0 ≡ c
            → sort_of page file transfer cheque
            ≡ cond a (cond b (cond c (unsorted 43 0) (goes_on page file transfer cheque)) (unsorted (rule_at page file n transfer cheque (n + 1)) (n + 1))) (unsorted 33 (no_amount file n))
            → (sort_of page file transfer cheque).number ≡ 0 → GoesOn page file transfer cheque n
        go true true true p q r is z = absurd (omega (arith, ap (λ (s : Sorted). s.number) is))
        go true true false p q r is z =
            record {
              page_is = there;
              fits = shape;
              q_right = q_right;
              amounts = eqb-true _ 0 p;
              z_right = eqb-true _ 0 q;
              some = omega (arith, eqb-false (length (kept_in page file transfer cheque)) 0 r);
              answer = is;
            }
        go true false c p q r is z = absurd (eqb-false _ 0 q (sym (ap (λ (s : Sorted). s.number) is) ∙ z))
        go false b c p q r is z = absurd (omega (arith, ap (λ (s : Sorted). s.number) is))

  -- the page, the structure, and Q
  pub goes : (sort_of page file transfer cheque).number ≡ 0 → (n : ℕ) × GoesOn page file transfer cheque n
  unfolding sort_of
  goes z = go (is_page page) (structure_of file) refl refl (tells file) refl z
    where
      at_q : (n : ℕ) (b : Bool) → is_page page ≡ true → structure_of file ≡ Fits n → eqb (rule_at page file n transfer cheque 0) 0 ≡ b
          → sort_of page file transfer cheque ≡ cond b (behind_q page file n transfer cheque) (unsorted (rule_at page file n transfer cheque 0) 0)
          → (sort_of page file transfer cheque).number ≡ 0 → GoesOn page file transfer cheque n
      at_q n true p s q is z = behind n p s (eqb-true _ 0 q) is z
      at_q n false p s q is z = absurd (eqb-false _ 0 q (sym (ap (λ (s : Sorted). s.number) is) ∙ z))

      go : (t : Bool) (s : Shape) → is_page page ≡ t → structure_of file ≡ s → Tells file s
          → sort_of page file transfer cheque ≡ cond t (sort_by s page file transfer cheque) (unsorted 7 0)
          → (sort_of page file transfer cheque).number ≡ 0 → (n : ℕ) × GoesOn page file transfer cheque n
      go true (Fits n) p e w is z = (n, at_q n (eqb (rule_at page file n transfer cheque 0) 0) p e refl is z)
      go true (Refused number rec) p e (inl t) is z = absurd (omega (arith, t.1, ap (λ (s : Sorted). s.number) is))
      go true (Refused number rec) p e (inr t) is z = absurd (t.1.real (sym (ap (λ (s : Sorted). s.number) is) ∙ z))
      go false s p e w is z = absurd (omega (arith, ap (λ (s : Sorted). s.number) is))

  -- so the number of a refusal is never 0
  pub refused_real : {number rec : ℕ} → unsorted number rec ≡ sort_of page file transfer cheque → number ≡ 0 → ⊥
  refused_real e z =
      let g = goes (sym (ap (λ (s : Sorted). s.number) e) ∙ z) in
      omega (arith, ap (λ (s : Sorted). s.payments.kept) (e ∙ g.1.answer), g.1.some)

  pub answer_real : (r : Result Going Refusal) → sorted_of r ≡ sort_of page file transfer cheque → IfErr r (λ why. number_of why ≡ 0 → ⊥)
  answer_real (Ok g) e = tt
  answer_real (Err why) e = refused_real e

-- what it has, by its records
module _ (page : ℕ) (file transfer cheque : List ℕ) (n : ℕ) (g : GoesOn page file transfer cheque n) where
  abbrev F : ℕ → ℕ → ℕ
  F k rule = fault_of page file n (euro_sum file n) transfer cheque k rule

  q_holds : (rule : ℕ) → 10 ≤ rule → rule < 17 → q_fault page (slot_at file 0) rule ≡ 0
  q_holds rule a b =
      of_q page file n (euro_sum file n) transfer cheque 0 rule (q_fault page (slot_at file 0) rule) refl refl refl
      ∙ rules_hold F (rule_from n) (rule_end n) (rule_real n) 0 g.q_right rule a b

  z_holds : (rule : ℕ) → 40 ≤ rule → rule < 43 → z_fault n (euro_sum file n) (slot_at file (n + 1)) rule ≡ 0
  z_holds rule a b =
      let later : eqb (n + 1) 0 ≡ false = ne_eqb (n + 1) 0 (λ (e : n + 1 ≡ 0). omega arith) in
      let past : leb (n + 1) n ≡ false = lt-leb (n + 1) n (omega arith) in
      of_z page file n (euro_sum file n) transfer cheque (n + 1) rule (z_fault n (euro_sum file n) (slot_at file (n + 1)) rule) (λ (e : n + 1 ≡ 0). omega arith) (omega arith) refl refl
      ∙ rules_hold F (rule_from n) (rule_end n) (rule_real n) (n + 1) g.z_right rule (rw (later, past) a) (rw (later, past) b)

  pub z_is_right : ZRight (z_slot file n g.fits) (length (t_records file)) (sum_of euros (t_records file))
  z_is_right =
      let z = z_is file n g.fits in
      z_right (z_slot file n g.fits) (length (t_records file)) (sum_of euros (t_records file))
      (λ rule a b.
      (λ i. z_fault (records_count file n g.fits i) (sym (sum_is file n g.fits) i) (z i) rule) ∙ z_holds rule a b)

  pub sortable : Sortable page (slot_at file 0) (t_records file) (z_slot file n g.fits) (lengths file n g.fits)
  sortable =
      record {
        heads =
            (structure_by_records (slot_at file 0) (t_records file) (z_slot file n g.fits) (lengths file n g.fits)).0
            (ap structure_of (sym (file_is file n g.fits)) ∙ g.fits ∙ ap Fits (sym (records_count file n g.fits)));
        q_rules = q_holds;
        z_right = z_is_right;
      }

  -- the kept file is sound
  pub kept_sound : (verdict_of page (kept_file page file transfer cheque) transfer cheque).number ≡ 0
  unfolding kept_file
  kept_sound =
      subst (λ (t : List ℕ). (verdict_of page (kept_by (slot_at file 0) (by t) (z_slot file n g.fits)) transfer cheque).number ≡ 0) (sym first)
      ((sound_by_records (slot_at file 0) (by (get_or (t_records file) 0 [])) _
      (kept_sized page transfer cheque (slot_at file 0) (t_records file) (z_slot file n g.fits) (lengths file n g.fits)) page transfer cheque).1
      (kept_keeps page transfer cheque (slot_at file 0) (t_records file) (z_slot file n g.fits) (lengths file n g.fits) sortable
      (subst (λ (t : List ℕ). 1 ≤ length (by t)) first g.some)))
    where
      by : List ℕ → List (List ℕ)
      by t = kept (λ (u : List ℕ). first_of page transfer cheque (key_of t) u) (t_records file)

      first : slot_at file 1 ≡ get_or (t_records file) 0 []
      first = slot_is file n g.fits 0 (fit file n g.fits).some

  -- and is the file where nothing is returned
  pub kept_whole_file : length (returned_in page file transfer cheque) ≡ 0 → kept_file page file transfer cheque ≡ file
  kept_whole_file none =
      kept_same file n g.fits page transfer cheque (kept_whole (rule_in page file transfer cheque) (t_records file) none) z_is_right
