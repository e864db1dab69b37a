-- Where no T rule is broken, the default way answers and leaves what the strict way does, and names nobody.
use Prim.Native.Nat.{ℕ, ◌+◌, ◌≤◌, ◌<◌}
use mathlib.Core.Path.{◌≡◌, refl, sym, ap, ◌∙◌}
use mathlib.Core.Bool.{Bool, true, false, not, cond, false≢true}
use mathlib.Core.List.{List, []}
use mathlib.Core.Logic.{inl, inr}
use native.Mathlib.Omega.{arith}
use borrow.Author.Tests.{eqb-true, eqb-false, eq-eqb, ne_eqb, le-leb, le-ltb}
use lib.Dec.{eqb, leb, ltb}
use lib.ListN.{length}
use Rattle.laws.specs.Choice.{on, on_eq, off_eq}
use Rattle.laws.specs.Scan.{first, NoneAt, Means, means}
use Rattle.laws.specs.Steps.{empty}
use Rattle.charset.specs.Table.{is_page}
use Rattle.payments.specs.Rules.{key_of}
use Rattle.payments.specs.Faults.{t_fault}
use Rattle.structure.specs.Slots.{slot_at}
use Rattle.structure.specs.Walk.{structure_of}
use Rattle.structure.specs.Fits.{Tells, tells, fits}
use Rattle.structure.specs.Shape.{Shape, Fits, Refused}
use Rattle.judge.specs.First.{first_rule, faulty, told_at, none}
use Rattle.judge.specs.Content.{fault_of, rule_from, rule_end, content_of}
use Rattle.judge.specs.ByKind.{of_t}
use Rattle.judge.specs.Sums.{euro_sum, cent_sum}
use Rattle.judge.specs.Verdict.{verdict_of}
use Rattle.judge.specs.Told.{told_refused, told_broken}
use Rattle.judge.specs.declared.Breach.{Breach}
use Rattle.judge.specs.declared.Verdict.{Verdict}
use Rattle.forwarding.specs.Forwarded.{forwarded, notes_of}
use Rattle.forwarding.specs.Put.{put, put_none}
use Rattle.sorting.specs.Kept.{returned, records_by, t_records, rule_in, kept_in, returned_in, named_in, kept_file}
use Rattle.sorting.specs.Sorted.{unsorted, goes_on, no_amount, rule_at, sort_by, sort_of}
use Rattle.sorting.specs.Lists.{counts_add, named_count, kept_all}
use Rattle.sorting.specs.Frame.{fit, records_count}
use Rattle.sorting.proofs.WholeFile.{amount_digits, slot_is}
use Rattle.sorting.proofs.Outcome.{finds_none, holds_none}
use Rattle.sorting.proofs.Goes.{GoesOn, goes, kept_sound, kept_whole_file}
use Rattle.sorting.specs.declared.Sorted.{Sorted}
use Rattle.prepare.specs.Prepared.{not_prepared, done, send_of, prepare_by, prepare_of}
use Rattle.prepare.specs.Default.{default_by, default_of}
use Rattle.demands.specs.Broken.{Broken}
use Rattle.demands.specs.Sorting.{as_strict, AsStrict}
use Rattle.demands.proofs.Alone.{one_number}
use Rattle.demands.proofs.Turns.{right_whole, walked_due}
use Rattle.demands.proofs.Fitting.{due_here, right_here, says_is}
use Rattle.demands.proofs.Named.{is_none}
use Rattle.demands.proofs.Sorting.{succeeds, default_keeps}
use Rattle.demands.proofs.Due.{real, at_q, at_z, at_last, goes_by_rooms, shaped}

-- a search that finds its first at place p
finds_at : {A : Type 0} (P : ℕ → Bool) (f : ℕ → A) (z : A) (i e p : ℕ) → i ≤ p → p < e → P p ≡ true → NoneAt P i p → first P f z i e ≡ f p
finds_at {A} P f z i e p a b t h = go (first P f z i e) (means P f z i e)
  where
    go : (v : A) → Means P f z i e v → v ≡ f p
    go v (inl w) = absurd (false≢true (sym (w.1 p a b) ∙ t))
    go v (inr w) =
        w.answer
        ∙ ap f
        (one_number w.place p (λ l. false≢true (sym (h w.place w.above l) ∙ w.holds)) (λ l. false≢true (sym (w.before p a l) ∙ t)))

module _ (page : ℕ) (file transfer cheque : List ℕ) (n : ℕ) (e : structure_of file ≡ Fits n)
    (whole : (m j i : ℕ) → 20 ≤ m → m ≤ 35 → Broken page transfer cheque file m j i → ⊥) where
  abbrev F : ℕ → ℕ → ℕ
  F k rule = fault_of page file n (euro_sum file n) transfer cheque k rule

  -- each T rule holds of each T record
  t_holds : (k rule : ℕ) → 1 ≤ k → k ≤ n → 20 ≤ rule → rule < 36 → F k rule ≡ 0
  t_holds k rule a b lo hi = go (eqb (F k rule) 0) refl
    where
      go : (t : Bool) → eqb (F k rule) 0 ≡ t → F k rule ≡ 0
      go true t = eqb-true _ 0 t
      go false t =
          let f = fits file n e in
          absurd
          (whole rule k rule lo (omega arith)
          (inr (inr
          (record {
            own_turn = refl;
            due = walked_due file k (due_here file n f k (omega arith));
            whole = right_whole file k (right_here file n f k (omega arith));
            broken = λ z. eqb-false _ 0 t (sym (says_is file n f page transfer cheque rule k (omega arith)) ∙ z);
          }))))

  -- so no T record has a broken rule, all are kept, and amounts are digits
  t_says : (k rule : ℕ) → 1 ≤ k → k ≤ n → 20 ≤ rule → rule < 36 → t_fault page transfer cheque (key_of (slot_at file 1)) (slot_at file k) rule ≡ 0
  t_says k rule a b lo hi =
      of_t page file n (euro_sum file n) transfer cheque k rule (t_fault page transfer cheque (key_of (slot_at file 1)) (slot_at file k) rule) (λ (z : k ≡ 0). omega arith) b refl refl refl refl
      ∙ t_holds k rule a b lo hi

  t_right : (k : ℕ) → 1 ≤ k → k ≤ n → faulty F (rule_from n) (rule_end n) k ≡ false
  t_right k a b =
      let later : eqb k 0 ≡ false = ne_eqb k 0 (λ (z : k ≡ 0). omega arith) in
      let inside : leb k n ≡ true = le-leb k n b in
      ap not (eq-eqb (first_rule F (rule_from n) (rule_end n) k) 0
      (holds_none F (rule_from n) (rule_end n) k (λ r lo hi. t_holds k r a b (rw (later, inside) at lo) (rw (later, inside) at hi))))

  pub amounts_right : no_amount file n ≡ 0
  unfolding no_amount t_fault
  amounts_right = finds_none _ _ 0 1 (n + 1) (λ k a b. ap not (amount_digits (slot_at file k) (t_says k 33 a (omega arith) (omega arith) (omega arith))))

  pub all_kept : kept_in page file transfer cheque ≡ t_records file
  all_kept =
      kept_all (rule_in page file transfer cheque) (t_records file)
      (λ k l.
      let below : k < n = omega (arith, records_count file n e) in
      ap (rule_in page file transfer cheque) (sym (slot_is file n e k below))
      ∙ is_none page file transfer cheque (k + 1) (λ r a b. t_says (k + 1) r (omega arith) (omega arith) a (omega arith)))

  -- and the judge's first broken rule is Q's, or else Z's
  abbrev content : Breach
  content = content_of page file n (euro_sum file n) transfer cheque

  at_place : (k : ℕ) → k < n + 2 → (rule_at page file n transfer cheque k ≡ 0 → ⊥) → ((j : ℕ) → j < k → faulty F (rule_from n) (rule_end n) j ≡ false)
      → content ≡ told_at F (rule_from n) (rule_end n) k
  unfolding content_of
  at_place k b f h =
      finds_at (faulty F (rule_from n) (rule_end n)) (told_at F (rule_from n) (rule_end n)) none 0 (n + 2) k (omega arith) b (ap not (ne_eqb _ 0 f)) (λ j x y. h j y)

  before_z : rule_at page file n transfer cheque 0 ≡ 0 → (j : ℕ) → j < n + 1 → faulty F (rule_from n) (rule_end n) j ≡ false
  before_z z j l = go (eqb j 0) refl
    where
      go : (t : Bool) → eqb j 0 ≡ t → faulty F (rule_from n) (rule_end n) j ≡ false
      go true t = ap not (eq-eqb _ 0 (ap (rule_at page file n transfer cheque) (eqb-true j 0 t) ∙ z))
      go false t = t_right j (omega (arith, eqb-false j 0 t)) (omega arith)

  -- the verdict
  verdict_told : (k : ℕ) → (rule_at page file n transfer cheque k ≡ 0 → ⊥) → content ≡ told_at F (rule_from n) (rule_end n) k
      → ((verdict_of page file transfer cheque).number ≡ rule_at page file n transfer cheque k) × ((verdict_of page file transfer cheque).rec ≡ k)
  verdict_told k f c =
      let v = told_broken page file transfer cheque n (euro_sum file n) (cent_sum file n) content e refl refl refl (λ z. f (sym (ap (λ (b : Breach). b.number) c) ∙ z)) in
      (sym (ap (λ (v : Verdict). v.number) v) ∙ ap (λ (b : Breach). b.number) c, sym (ap (λ (v : Verdict). v.rec) v) ∙ ap (λ (b : Breach). b.rec) c)

  pub told_q : (rule_at page file n transfer cheque 0 ≡ 0 → ⊥)
      → ((verdict_of page file transfer cheque).number ≡ rule_at page file n transfer cheque 0) × ((verdict_of page file transfer cheque).rec ≡ 0)
  told_q f = verdict_told 0 f (at_place 0 (omega arith) f (λ j l. absurd (omega arith)))

  pub told_z : rule_at page file n transfer cheque 0 ≡ 0 → (rule_at page file n transfer cheque (n + 1) ≡ 0 → ⊥)
      → ((verdict_of page file transfer cheque).number ≡ rule_at page file n transfer cheque (n + 1)) × ((verdict_of page file transfer cheque).rec ≡ n + 1)
  told_z z f = verdict_told (n + 1) f (at_place (n + 1) (omega arith) f (before_z z))

-- the strict way's answer, of a refused file and of a sound one
module _ (page : ℕ) (file transfer cheque out notes : List ℕ) (there : is_page page ≡ true) where
  strict_refused : (m k : ℕ) → (m ≡ 0 → ⊥) → ((verdict_of page file transfer cheque).number ≡ m) × ((verdict_of page file transfer cheque).rec ≡ k)
      → not_prepared m k ≡ prepare_of page file transfer cheque out notes
  unfolding prepare_of
  strict_refused m k f v =
      on (not_prepared 7 0) there (off_eq _ (λ z. f (sym v.0 ∙ z)) (λ i. not_prepared (sym v.0 i) (sym v.1 i)))

  strict_sound : (verdict_of page file transfer cheque).number ≡ 0 → send_of page file out notes ≡ prepare_of page file transfer cheque out notes
  unfolding prepare_of
  strict_sound z = on (not_prepared 7 0) there (on_eq _ z refl)

-- a file that does not fit has no T records to sort
no_records : (file : List ℕ) (m k : ℕ) → structure_of file ≡ Refused m k → t_records file ≡ []
unfolding t_records
no_records file m k e = ap (λ (s : Shape). records_by s file) e

-- what is refused in sorting is refused with the same number and record
refused_alike : (page : ℕ) (file transfer cheque out notes list : List ℕ) (m k : ℕ) → (m ≡ 0 → ⊥) → sort_of page file transfer cheque ≡ unsorted m k
    → as_strict (default_of page file transfer cheque out notes list) ≡ not_prepared m k
unfolding default_of
refused_alike page file transfer cheque out notes list m k f e =
    ap as_strict (sym (off_eq _ (λ z. f (sym (ap (λ (s : Sorted). s.number) e) ∙ z)) refl) ∙ e)

no_page : (page : ℕ) (file transfer cheque out notes list : List ℕ) → is_page page ≡ false
    → as_strict (default_of page file transfer cheque out notes list) ≡ prepare_of page file transfer cheque out notes
unfolding default_of sort_of prepare_of
no_page page file transfer cheque out notes list t =
    ap (λ (b : Bool). as_strict (default_by (cond b (sort_by (structure_of file) page file transfer cheque) (unsorted 7 0)) page (kept_file page file transfer cheque) out notes list)) t
    ∙ ap (λ (b : Bool). cond b (prepare_by (verdict_of page file transfer cheque) page file out notes) (not_prepared 7 0)) (sym t)

module _ (page : ℕ) (file transfer cheque out notes list : List ℕ) (whole : (m j i : ℕ) → 20 ≤ m → m ≤ 35 → Broken page transfer cheque file m j i → ⊥) where
  -- nobody comes back
  none_back : length (returned_in page file transfer cheque) ≡ 0
  none_back = go (structure_of file) refl
    where
      go : (s : Shape) → structure_of file ≡ s → length (returned_in page file transfer cheque) ≡ 0
      go (Fits n) e = omega (arith, counts_add (rule_in page file transfer cheque) (t_records file), ap length (all_kept page file transfer cheque n e whole))
      go (Refused m k) e = ap (λ (ts : List (List ℕ)). length (returned (rule_in page file transfer cheque) ts)) (no_records file m k e)

  nobody : named_in page file transfer cheque ≡ []
  nobody = empty (named_in page file transfer cheque) (named_count (rule_in page file transfer cheque) 1 (t_records file) ∙ none_back)

  -- a file that goes on is sound, and is its own kept file
  module _ (there : is_page page ≡ true) (n : ℕ) (g : GoesOn page file transfer cheque n) where
    same : kept_file page file transfer cheque ≡ file
    same = kept_whole_file page file transfer cheque n g none_back

    sound : (verdict_of page file transfer cheque).number ≡ 0
    sound = ap (λ (f : List ℕ). (verdict_of page f transfer cheque).number) (sym same) ∙ kept_sound page file transfer cheque n g

    sent_alike : as_strict (default_of page file transfer cheque out notes list) ≡ prepare_of page file transfer cheque out notes
    unfolding send_of
    sent_alike =
        let all : ltb (length list) (length (named_in page file transfer cheque)) ≡ false = le-ltb (length list) (length (named_in page file transfer cheque)) (omega (arith, ap length nobody)) in
        ap as_strict (goes_by_rooms page file transfer cheque out notes list there g.answer)
        ∙ ap (λ (t : Bool). as_strict (cond (ltb (length out) (length (kept_file page file transfer cheque))) (unsorted 60 0) (cond (ltb (length notes) (length (notes_of page (kept_file page file transfer cheque)))) (unsorted 61 0) (cond t (unsorted 63 0) (goes_on page file transfer cheque))))) all
        ∙ go (ltb (length out) (length (kept_file page file transfer cheque))) (ltb (length notes) (length (notes_of page (kept_file page file transfer cheque))))
        ∙ ap (λ (f : List ℕ). cond (ltb (length out) (length f)) (not_prepared 60 0) (cond (ltb (length notes) (length (notes_of page f))) (not_prepared 61 0) (done (length (notes_of page f))))) same
        ∙ strict_sound page file transfer cheque out notes there sound
      where
        go : (a b : Bool) → as_strict (cond a (unsorted 60 0) (cond b (unsorted 61 0) (goes_on page file transfer cheque)))
            ≡ cond a (not_prepared 60 0) (cond b (not_prepared 61 0) (done (length (notes_of page (kept_file page file transfer cheque)))))
        go true b = refl
        go false true = refl
        go false false = refl

  -- the answers are alike
  fits_alike : is_page page ≡ true → (n : ℕ) → structure_of file ≡ Fits n → as_strict (default_of page file transfer cheque out notes list) ≡ prepare_of page file transfer cheque out notes
  fits_alike there n e = go (eqb (rule_at page file n transfer cheque 0) 0) (eqb (rule_at page file n transfer cheque (n + 1)) 0) refl refl
    where
      go : (a b : Bool) → eqb (rule_at page file n transfer cheque 0) 0 ≡ a → eqb (rule_at page file n transfer cheque (n + 1)) 0 ≡ b
          → as_strict (default_of page file transfer cheque out notes list) ≡ prepare_of page file transfer cheque out notes
      go false b p q =
          let f = eqb-false _ 0 p in
          refused_alike page file transfer cheque out notes list _ _ f (at_q page file transfer cheque out notes list there n e f)
          ∙ strict_refused page file transfer cheque out notes there _ _ f (told_q page file transfer cheque n e whole f)
      go true false p q =
          let z = eqb-true _ 0 p in
          let f = eqb-false _ 0 q in
          refused_alike page file transfer cheque out notes list _ _ f (at_z page file transfer cheque out notes list there n e z (amounts_right page file transfer cheque n e whole) f)
          ∙ strict_refused page file transfer cheque out notes there _ _ f (told_z page file transfer cheque n e whole z f)
      go true true p q =
          let some : length (kept_in page file transfer cheque) ≡ 0 → ⊥ = λ z. omega (arith, z, ap length (all_kept page file transfer cheque n e whole), records_count file n e, (fit file n e).some) in
          let is = at_last page file transfer cheque out notes list there n e (eqb-true _ 0 p) (amounts_right page file transfer cheque n e whole) (eqb-true _ 0 q) some in
          let g = goes page file transfer cheque (ap (λ (s : Sorted). s.number) is) in
          sent_alike there g.0 g.1

  alike : as_strict (default_of page file transfer cheque out notes list) ≡ prepare_of page file transfer cheque out notes
  alike = go (is_page page) (structure_of file) refl refl (tells file)
    where
      go : (t : Bool) (s : Shape) → is_page page ≡ t → structure_of file ≡ s → Tells file s → as_strict (default_of page file transfer cheque out notes list) ≡ prepare_of page file transfer cheque out notes
      go false s t e w = no_page page file transfer cheque out notes list t
      go true (Fits n) t e w = fits_alike t n e
      go true (Refused m k) t e w =
          let v = told_refused page file transfer cheque m k e in
          refused_alike page file transfer cheque out notes list m k (real w) (shaped page file transfer cheque out notes list t (Refused m k) e)
          ∙ strict_refused page file transfer cheque out notes t m k (real w) (sym (ap (λ (v : Verdict). v.number) v), sym (ap (λ (v : Verdict). v.rec) v))

pub as_strict_way : AsStrict
as_strict_way page file transfer cheque out notes list out' notes' list' answer promise whole = (
  record {
    answer_is = ap as_strict promise.answer_is ∙ alike page file transfer cheque out notes list whole;
    out_is = promise.out_is ∙ left (forwarded page) out;
    notes_are = promise.notes_are ∙ left (notes_of page) notes;
  },
  promise.list_is ∙ named_left,
  none_returned,
)
  where
    -- where the answer is 0, the kept file is the file
    file_is : answer.number ≡ 0 → kept_file page file transfer cheque ≡ file
    file_is z =
        let w = succeeds page file transfer cheque out notes list (sym (ap (λ (s : Sorted). s.number) promise.answer_is) ∙ z) in
        let g = goes page file transfer cheque w.sorted in
        same page file transfer cheque out notes list whole g.1.page_is g.0 g.1

    left : (f : List ℕ → List ℕ) (room : List ℕ) → cond (eqb answer.number 0) (put 0 (f (kept_file page file transfer cheque)) room) room ≡ cond (eqb answer.number 0) (put 0 (f file) room) room
    left f room = go (eqb answer.number 0) refl
      where
        go : (t : Bool) → eqb answer.number 0 ≡ t → cond t (put 0 (f (kept_file page file transfer cheque)) room) room ≡ cond t (put 0 (f file) room) room
        go true t = ap (λ (k : List ℕ). put 0 (f k) room) (file_is (eqb-true _ 0 t))
        go false t = refl

    named_left : cond (eqb answer.number 0) (put 0 (named_in page file transfer cheque) list) list ≡ list
    named_left = go (eqb answer.number 0)
      where
        go : (t : Bool) → cond t (put 0 (named_in page file transfer cheque) list) list ≡ list
        go true = ap (λ (l : List ℕ). put 0 l list) (nobody page file transfer cheque out notes list whole) ∙ put_none 0 list
        go false = refl

    none_returned : answer.payments.returned ≡ 0
    none_returned = go (eqb answer.number 0) refl
      where
        go : (t : Bool) → eqb answer.number 0 ≡ t → answer.payments.returned ≡ 0
        go true t =
            let w = succeeds page file transfer cheque out notes list (sym (ap (λ (s : Sorted). s.number) promise.answer_is) ∙ eqb-true _ 0 t) in
            let g = goes page file transfer cheque w.sorted in
            ap (λ (s : Sorted). s.payments.returned) (promise.answer_is ∙ w.is ∙ g.1.answer) ∙ none_back page file transfer cheque out notes list whole
        go false t =
            ap (λ (s : Sorted). s.payments.returned) (default_keeps page file transfer cheque out notes list out' notes' list' answer promise (eqb-false _ 0 t)).3
