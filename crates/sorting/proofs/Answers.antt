-- What each return of the code answers, as the definition has it.
use Rattle.std.specs.Prelude.{ℕ, ◌+◌, ◌-◌, ◌≤◌, ◌<◌, ◌≡◌, refl, Bool, true, false, not, cond, List, ◌⊎◌, eqb, Result, Ok, Err}
use Rattle.std.proofs.Common.{sym, ◌∙◌, inl, inr, eqb-true, ap, arith, length}
use Rattle.std.proofs.lemmas.Bool.{eqb-false}
use Rattle.laws.specs.Choice.{on_eq, off_eq, on_not, off_not}
use Rattle.laws.specs.Sums.{sum_of}
use Rattle.charset.specs.Table.{is_page}
use Rattle.payments.specs.Rules.{key_of}
use Rattle.structure.specs.Slots.{slot_at}
use Rattle.structure.specs.Walk.{structure_of}
use Rattle.structure.specs.Shape.{Shape, Fits}
use Rattle.judge.specs.Content.{fault_of, rule_from, rule_end, content_of, rule_real}
use Rattle.judge.specs.Meaning.{none_broken}
use Rattle.judge.specs.Found.{unbroken, was_broken, was_whole}
use Rattle.judge.specs.Run.{run_fault, Lies, first_in, file_lies, fault_in_file}
use Rattle.judge.specs.Sums.{euros, euro_sum, cent_sum}
use Rattle.judge.specs.Verdict.{refused, sound, verdict_of}
use Rattle.judge.specs.Told.{sound_fits, told_fits}
use Rattle.judge.specs.declared.Breach.{Breach}
use Rattle.judge.specs.declared.Verdict.{Verdict}
use Rattle.forwarding.specs.Forwarded.{notes_of}
use Rattle.sorting.specs.Kept.{t_records, rule_in, kept_in, returned_in, kept_file}
use Rattle.sorting.specs.Sorted.{shares, sorted_as, unsorted, goes_on, no_amount, rule_at, refusing, behind_q, sort_by, sort_of}
use Rattle.sorting.specs.Answer.{digits_place, amounts_of, z_breach}
use Rattle.sorting.specs.Lists.{counts_add, sums_add}
use Rattle.sorting.specs.Frame.{fit, records_count}
use Rattle.sorting.specs.Counting.{figures_are, figures_of, going_on}
use Rattle.sorting.proofs.Outcome.{holds_none, one_told, one_there, q_told, q_below, later_told}
use Rattle.sorting.proofs.WholeFile.{sum_is, sound_keeps, content_sound, amounts_right, all_kept, goes_whole}
use Rattle.sorting.specs.declared.Figures.{Figures}
use Rattle.sorting.specs.declared.Sorted.{Sorted}

module _ (page : ℕ) (file transfer cheque : List ℕ) (n : ℕ) (e : structure_of file ≡ Fits n) where
  abbrev rule : List ℕ → ℕ
  rule t = rule_in page file transfer cheque t

  -- Z alone
  pub z_lies : Lies file 0 n (n + 1) (n + 2)
  z_lies =
      let l = file_lies file n (fit file n e).long (fit file n e).most in
      record {
        few = l.few;
        low = λ k a b. l.low k (omega arith) b;
        there = λ k a b. l.there k (omega arith) b;
        long = λ k a b. l.long k (omega arith) b;
      }

  -- what a run over Z alone tells
  pub z_same : {key : List ℕ} {sum : ℕ} → key ≡ key_of (slot_at file 1) → sum ≡ euro_sum file n
      → first_in (run_fault page transfer cheque key n sum file 0) (rule_from n) (rule_end n) (n + 1) (n + 2) ≡ z_breach page file n transfer cheque
  z_same {key} {sum} p s =
      (λ i. first_in (λ (k r : ℕ). fault_in_file page file n sum transfer cheque key k r p i) (rule_from n) (rule_end n) (n + 1) (n + 2))
      ∙ ap (λ (m : ℕ). first_in (fault_of page file n m transfer cheque) (rule_from n) (rule_end n) (n + 1) (n + 2)) s

  abbrev alone : Breach
  alone = first_in (fault_of page file n (euro_sum file n) transfer cheque) (rule_from n) (rule_end n) (n + 1) (n + 1 + 1)

  z_alone : z_breach page file n transfer cheque ≡ alone
  z_alone =
      let two : n + 2 ≡ n + 1 + 1 = omega arith in
      ap (λ (m : ℕ). first_in (fault_of page file n (euro_sum file n) transfer cheque) (rule_from n) (rule_end n) (n + 1) m) two

  z_number : (z_breach page file n transfer cheque).number ≡ rule_at page file n transfer cheque (n + 1)
  z_number = ap (λ (b : Breach). b.number) z_alone ∙ one_told (fault_of page file n (euro_sum file n) transfer cheque) (rule_from n) (rule_end n) (n + 1)

  pub z_told : {key : List ℕ} {sum : ℕ} {b : Breach} → key ≡ key_of (slot_at file 1) → sum ≡ euro_sum file n
      → b ≡ first_in (run_fault page transfer cheque key n sum file 0) (rule_from n) (rule_end n) (n + 1) (n + 2)
      → b.number ≡ rule_at page file n transfer cheque (n + 1)
  z_told p s h = ap (λ (b : Breach). b.number) (h ∙ z_same p s) ∙ z_number

  z_rec : ((z_breach page file n transfer cheque).number ≡ 0 → ⊥) → (z_breach page file n transfer cheque).rec ≡ n + 1
  z_rec f =
      ap (λ (b : Breach). b.rec) z_alone
      ∙ one_there (fault_of page file n (euro_sum file n) transfer cheque) (rule_from n) (rule_end n) (n + 1) (λ z. f (ap (λ (b : Breach). b.number) z_alone ∙ z))

  -- behind Q
  pub kept_le : {f : Figures} {sum : ℕ} → f ≡ figures_of page file transfer cheque → sum ≡ euro_sum file n → (f.payments ≤ n) × (f.euros ≤ sum)
  unfolding figures_of
  kept_le p s = (
    omega (arith, ap (λ (f : Figures). f.payments) p, counts_add rule (t_records file), records_count file n e),
    omega (arith, ap (λ (f : Figures). f.euros) p, sums_add rule euros (t_records file), s, sum_is file n e),
  )

  goes_on_is : {f : Figures} {sum : ℕ} → f ≡ figures_of page file transfer cheque → sum ≡ euro_sum file n → going_on f n sum ≡ goes_on page file transfer cheque
  unfolding figures_of
  goes_on_is {f} {sum} p s =
      let m : n - length (kept_in page file transfer cheque) ≡ length (returned_in page file transfer cheque) =
      omega (arith, counts_add rule (t_records file), records_count file n e) in
      let k : sum - sum_of euros (kept_in page file transfer cheque) ≡ sum_of euros (returned_in page file transfer cheque) =
      omega (arith, sums_add rule euros (t_records file), s, sum_is file n e) in
      ap (λ (f : Figures). going_on f n sum) p
      ∙ (λ i. sorted_as 0 0 (length (notes_of page (kept_file page file transfer cheque))) (shares (length (kept_in page file transfer cheque)) (m i)) (shares (sum_of euros (kept_in page file transfer cheque)) (k i)))

  -- the amounts
  pub told_33 : {b : Breach} → Err b ≡ amounts_of file n → unsorted b.number b.rec ≡ behind_q page file n transfer cheque
  unfolding behind_q
  told_33 {b} e = go (eqb (no_amount file n) 0) refl e
    where
      go : (t : Bool) → eqb (no_amount file n) 0 ≡ t
          → ◌≡◌ {A = Result Unit Breach} (Err b) (cond t (Ok tt) (Err (record { number = 33; rec = no_amount file n; at = digits_place (slot_at file (no_amount file n)) })))
          → unsorted b.number b.rec ≡ cond t (refusing (rule_at page file n transfer cheque (n + 1)) (n + 1)
          (cond (eqb (length (kept_in page file transfer cheque)) 0) (unsorted 43 0) (goes_on page file transfer cheque))) (unsorted 33 (no_amount file n))
      go true p e = absurd (cc)
      go false p e =
          let is : b ≡ record { number = 33; rec = no_amount file n; at = digits_place (slot_at file (no_amount file n)) } = cc in
          ap (λ (b : Breach). unsorted b.number b.rec) is

  pub right_33 : {u : Unit} → Ok u ≡ amounts_of file n → no_amount file n ≡ 0
  right_33 {u} e = go (eqb (no_amount file n) 0) refl e
    where
      go : (t : Bool) → eqb (no_amount file n) 0 ≡ t
          → ◌≡◌ {A = Result Unit Breach} (Ok u) (cond t (Ok tt) (Err (record { number = 33; rec = no_amount file n; at = digits_place (slot_at file (no_amount file n)) })))
          → no_amount file n ≡ 0
      go true p e = eqb-true _ 0 p
      go false p e = absurd (cc)

  module _ {u : Unit} (amounts : Ok u ≡ amounts_of file n) where
    by_amounts : {r : Sorted} → r ≡ refusing (rule_at page file n transfer cheque (n + 1)) (n + 1) (cond (eqb (length (kept_in page file transfer cheque)) 0) (unsorted 43 0) (goes_on page file transfer cheque))
        → r ≡ behind_q page file n transfer cheque
    unfolding behind_q
    by_amounts h = on_eq _ (right_33 amounts) h

    -- Z
    pub told_z : {b : Breach} → Err b ≡ unbroken (z_breach page file n transfer cheque) → unsorted b.number b.rec ≡ behind_q page file n transfer cheque
    told_z {b} e =
        let w = was_broken e in
        let number : b.number ≡ rule_at page file n transfer cheque (n + 1) = ap (λ (b : Breach). b.number) w.0 ∙ z_number in
        let rec-is : b.rec ≡ n + 1 = ap (λ (b : Breach). b.rec) w.0 ∙ z_rec (λ z. w.1 (ap (λ (b : Breach). b.number) w.0 ∙ z)) in
        by_amounts (off_eq _ (λ z. w.1 (number ∙ z)) (λ i. unsorted (number i) (rec-is i)))

    -- and what is kept
    module _ {v : Unit} (z : Ok v ≡ unbroken (z_breach page file n transfer cheque)) {f : Figures} (q : f ≡ figures_of page file transfer cheque) where
      z_right : rule_at page file n transfer cheque (n + 1) ≡ 0
      z_right = sym z_number ∙ was_whole _ z

      pub told_43 : f.payments ≡ 0 → unsorted 43 0 ≡ behind_q page file n transfer cheque
      unfolding figures_of
      told_43 none = by_amounts (on_eq _ z_right (on_eq _ (sym (ap (λ (f : Figures). f.payments) q) ∙ none) refl))

      pub told_going : {r : Sorted} {sum : ℕ} → (f.payments ≡ 0 → ⊥) → sum ≡ euro_sum file n → r ≡ going_on f n sum → r ≡ behind_q page file n transfer cheque
      unfolding figures_of
      told_going some s h =
          by_amounts (on_eq _ z_right (off_eq _ (λ z. some (ap (λ (f : Figures). f.payments) q ∙ z)) (h ∙ goes_on_is q s)))

  -- by the judge's first broken rule
  module _ {sum : ℕ} (s : sum ≡ euro_sum file n) {b : Breach} (told : b ≡ content_of page file n sum transfer cheque) where
    content_is : b ≡ content_of page file n (euro_sum file n) transfer cheque
    content_is = told ∙ ap (λ (m : ℕ). content_of page file n m transfer cheque) s

    is_content : b.number ≡ (content_of page file n (euro_sum file n) transfer cheque).number
    is_content = ap (λ (b : Breach). b.number) content_is

    q_number : (rule_at page file n transfer cheque 0 ≡ 0 → ⊥) → (content_of page file n (euro_sum file n) transfer cheque).number ≡ rule_at page file n transfer cheque 0
    q_number f = ap (λ (b : Breach). b.number) (q_told page file transfer cheque n f)

    q_right : (20 ≤ b.number) ⊎ (b.number ≡ 0) → rule_at page file n transfer cheque 0 ≡ 0
    q_right h = go (eqb (rule_at page file n transfer cheque 0) 0) refl h
      where
        go : (t : Bool) → eqb (rule_at page file n transfer cheque 0) 0 ≡ t → (20 ≤ b.number) ⊎ (b.number ≡ 0) → rule_at page file n transfer cheque 0 ≡ 0
        go true t h = eqb-true _ 0 t
        go false t (inl h) =
            absurd (omega (arith, is_content, q_number (eqb-false (rule_at page file n transfer cheque 0) 0 t), q_below page file transfer cheque n))
        go false t (inr h) = sym (q_number (eqb-false _ 0 t)) ∙ sym is_content ∙ h

    pub told_later : {r : Sorted} → 20 ≤ b.number → r ≡ behind_q page file n transfer cheque → r ≡ sort_by (Fits n) page file transfer cheque
    told_later l h = on_eq _ (q_right (inl l)) h

    pub told_q : (b.number ≡ 0 → ⊥) → b.number < 20 → unsorted b.number b.rec ≡ sort_by (Fits n) page file transfer cheque
    told_q f l = go (eqb (rule_at page file n transfer cheque 0) 0) refl
      where
        go : (t : Bool) → eqb (rule_at page file n transfer cheque 0) 0 ≡ t → unsorted b.number b.rec ≡ sort_by (Fits n) page file transfer cheque
        go true t = absurd (omega (arith, l, is_content, later_told page file transfer cheque n (eqb-true (rule_at page file n transfer cheque 0) 0 t) (λ z. f (is_content ∙ z))))
        go false t =
            let f = eqb-false (rule_at page file n transfer cheque 0) 0 t in
            off_eq (behind_q page file n transfer cheque) f (ap (λ (b : Breach). unsorted b.number b.rec) (content_is ∙ q_told page file transfer cheque n f))

    -- no rule is broken
    z_holds : b.number ≡ 0 → rule_at page file n transfer cheque (n + 1) ≡ 0
    unfolding content_of
    z_holds z =
        holds_none (fault_of page file n (euro_sum file n) transfer cheque) (rule_from n) (rule_end n) (n + 1)
        (none_broken (fault_of page file n (euro_sum file n) transfer cheque) (rule_from n) (rule_end n) (rule_real n) (n + 2) (sym is_content ∙ z) (n + 1) (omega arith))

    pub told_whole : {r : Sorted} {changes : ℕ} → b.number ≡ 0 → changes ≡ length (notes_of page file) → r ≡ going_on (figures_are n sum changes) n sum
        → r ≡ sort_by (Fits n) page file transfer cheque
    unfolding behind_q
    told_whole {r} {changes} z c h =
        let k = sound_keeps file n e page transfer cheque (content_sound file n e page transfer cheque (sym is_content ∙ z)) in
        let none : n - n ≡ 0 = omega arith in
        let nothing : sum - sum ≡ 0 = omega arith in
        let some : length (kept_in page file transfer cheque) ≡ n = ap length (all_kept file n e page transfer cheque k) ∙ records_count file n e in
        let whole : r ≡ goes_on page file transfer cheque =
        h ∙ (λ i. sorted_as 0 0 changes (shares n (none i)) (shares sum (nothing i))) ∙ goes_whole file n e page transfer cheque k c s in
        on_eq _ (q_right (inr z))
        (on_eq _ (amounts_right file n e page transfer cheque k)
        (on_eq _ (z_holds z)
        (off_eq _ (λ (y : length (kept_in page file transfer cheque) ≡ 0). omega (arith, some, (fit file n e).some)) whole)))

-- the page, and then structure
module _ (page : ℕ) (file transfer cheque : List ℕ) {there : Bool} (known : there ≡ is_page page) where
  pub told_no_page : {r : Sorted} → not there ≡ true → r ≡ unsorted 7 0 → r ≡ sort_of page file transfer cheque
  unfolding sort_of
  told_no_page t h = off_not _ known t h

  pub told_shape : {r : Sorted} (shape : Shape) → not there ≡ false → structure_of file ≡ shape → r ≡ sort_by shape page file transfer cheque → r ≡ sort_of page file transfer cheque
  unfolding sort_of
  told_shape shape t w h = on_not _ known t (h ∙ ap (λ (s : Shape). sort_by s page file transfer cheque) (sym w))

  -- a sound file goes on whole, with the verdict's figures
  pub told_sound : {v : Verdict} {r : Sorted} {changes : ℕ} → not there ≡ false → v ≡ verdict_of page file transfer cheque → v.number ≡ 0
      → changes ≡ length (notes_of page file) → r ≡ going_on (figures_are v.payments v.euros changes) v.payments v.euros
      → r ≡ sort_of page file transfer cheque
  told_sound {v} {r} {changes} t e z c h =
      let f = sound_fits page file transfer cheque (sym (ap (λ (v : Verdict). v.number) e) ∙ z) in
      let b = content_of page file f.0 (euro_sum file f.0) transfer cheque in
      go f.0 f.1 (eqb b.number 0) refl (e ∙ sym (told_fits page file transfer cheque f.0 f.1))
    where
      go : (n : ℕ) → structure_of file ≡ Fits n → (k : Bool) → eqb (content_of page file n (euro_sum file n) transfer cheque).number 0 ≡ k
          → v ≡ cond k (sound n (euro_sum file n) (cent_sum file n))
          (refused (content_of page file n (euro_sum file n) transfer cheque).number (content_of page file n (euro_sum file n) transfer cheque).rec (content_of page file n (euro_sum file n) transfer cheque).at)
          → r ≡ sort_of page file transfer cheque
      go n w true p q =
          told_shape (Fits n) t w
          (told_whole page file transfer cheque n w refl refl (eqb-true _ 0 p) c
          (h ∙ ap (λ (v : Verdict). going_on (figures_are v.payments v.euros changes) v.payments v.euros) q))
      go n w false p q = absurd (eqb-false _ 0 p (sym (ap (λ (v : Verdict). v.number) q) ∙ z))
