-- A verdict's number is at most 50 and its record at most 10,000, so that record × 100 + number tells both.
use Rattle.std.specs.Prelude.{ℕ, ◌+◌, ◌≤◌, ◌≡◌, refl, Bool, ◌&&◌, cond, List, leb, ltb, length}
use Prim.Native.Char.{code}
use Rattle.std.proofs.Math.Bool.{true, false}
use Rattle.std.proofs.Common.{inl, inr, arith, leb-true, leb-false}
use Rattle.std.proofs.lemmas.Bool.{eqb-false}
use Rattle.std.proofs.Math.Dec.{eqb, lit≤}
use Rattle.laws.specs.Choice.{either}
use Rattle.charset.specs.Table.{is_page}
use Rattle.fields.specs.Class.{same}
use Rattle.fields.specs.Lists.{is_taken}
use Rattle.structure.specs.Slots.{slot_at}
use Rattle.structure.specs.Walk.{letter_of, digits_of, digits_for, length_for, allowed, fault_in, structure_of}
use Rattle.structure.specs.Fits.{Reached, Tells, tells, passed_room}
use Rattle.structure.specs.Shape.{Shape, Fits, Refused}
use Rattle.judge.specs.First.{first_broken}
use Rattle.judge.specs.Content.{fault_of, rule_from, rule_end, content_of, rule_real}
use Rattle.judge.specs.Meaning.{broken}
use Rattle.judge.specs.Sums.{euro_sum, cent_sum, file_number}
use Rattle.judge.specs.Verdict.{refused, sound, verdict_by, verdict_of, judge_of}
use Rattle.judge.specs.declared.Verdict.{Verdict}

abbrev pub Small : Verdict → Type 0
Small v = (v.number ≤ 50) × (v.rec ≤ 10000)

fault_small : (k : ℕ) (slot : List ℕ) → fault_in k slot ≤ 5
unfolding fault_in
fault_small k slot =
    let letter = letter_of slot in
    either (λ (x : ℕ). x ≤ 5) (ltb (length slot) 5) 2 _ (lit≤ tt)
    (either (λ (x : ℕ). x ≤ 5) (allowed k letter) _ 4
    (either (λ (x : ℕ). x ≤ 5) (same (digits_of slot) (digits_for letter)) _ 3
    (either (λ (x : ℕ). x ≤ 5) (ltb (length slot) (length_for letter)) 2 _ (lit≤ tt)
    (either (λ (x : ℕ). x ≤ 5) (eqb letter (code "Z") && ltb 256 (length slot)) 5 0 (lit≤ tt) (lit≤ tt)))
    (lit≤ tt))
    (lit≤ tt))

-- a file of at most 7,679,744 bytes has no record after 10,000
due_small : (file : List ℕ) (k : ℕ) → length file ≤ 7679744 → Reached file k → k ≤ 10000
due_small file k short due = go (leb k 10000) refl
  where
    go : (b : Bool) → leb k 10000 ≡ b → k ≤ 10000
    go true e = leb-true k 10000 e
    go false e = absurd (omega (arith, leb-false k 10000 e, passed_room file 10000 (due 10000 (leb-false k 10000 e))))

module _ (page : ℕ) (file transfer cheque : List ℕ) where
  content_small : (n : ℕ) → n ≤ 9999
      → ((content_of page file n (euro_sum file n) transfer cheque).number ≡ 0 → ⊥)
      → ((content_of page file n (euro_sum file n) transfer cheque).number ≤ 50) × ((content_of page file n (euro_sum file n) transfer cheque).rec ≤ 10000)
  unfolding content_of
  content_small n most f =
      let b = broken (fault_of page file n (euro_sum file n) transfer cheque) (rule_from n) (rule_end n) (rule_real n) (n + 2) f in
      (omega (arith, b.rule_below, end_small (first_broken (fault_of page file n (euro_sum file n) transfer cheque) (rule_from n) (rule_end n) (n + 2)).rec), omega (arith, b.below))
    where
      end_small : (k : ℕ) → rule_end n k ≤ 43
      end_small k = either (λ (x : ℕ). x ≤ 43) (eqb k 0) 17 _ (lit≤ tt) (either (λ (x : ℕ). x ≤ 43) (leb k n) 36 43 (lit≤ tt) (lit≤ tt))

  pub verdict_small : Small (verdict_of page file transfer cheque)
  unfolding verdict_of
  verdict_small = go (structure_of file) (tells file)
    where
      fits_small : (n : ℕ) → n ≤ 9999 → (b : Bool) → eqb (content_of page file n (euro_sum file n) transfer cheque).number 0 ≡ b
          → Small (cond b (sound n (euro_sum file n) (cent_sum file n)) (refused (content_of page file n (euro_sum file n) transfer cheque).number (content_of page file n (euro_sum file n) transfer cheque).rec (content_of page file n (euro_sum file n) transfer cheque).at))
      fits_small n most true e = (lit≤ tt, lit≤ tt)
      fits_small n most false e = content_small n most (eqb-false _ _ e)

      go : (s : Shape) → Tells file s → Small (verdict_by s page file transfer cheque)
      go (Fits n) t = fits_small n t.1.most _ refl
      go (Refused number k) (inl t) = (omega (arith, t.1), omega (arith, t.2))
      go (Refused number k) (inr t) =
          (omega (arith, t.1.broken, fault_small k (slot_at file k)), due_small file k t.0 t.1.due)

pub judge_small : (page : ℕ) (file transfer cheque taken : List ℕ) → Small (judge_of page file transfer cheque taken)
unfolding judge_of
judge_small page file transfer cheque taken =
    let v = verdict_of page file transfer cheque in
    let s = verdict_small page file transfer cheque in
    either Small (is_page page) _ (refused 7 0 0)
    (either Small (eqb v.number 0) _ v
    (either Small (is_taken taken (file_number (slot_at file 0))) (refused 50 0 0) v (lit≤ tt, lit≤ tt) s) s)
    (lit≤ tt, lit≤ tt)
