-- The turns of counting what is kept: a payment more, which is kept or not.
use Rattle.std.specs.Prelude.{ℕ, ◌+◌, ◌*◌, ◌-◌, ◌≤◌, ◌<◌, ◌≡◌, refl, Bool, true, false, cond, eqb, length, Option, None, Some, is_some}
use Rattle.std.proofs.Common.{sym, ap, subst, ◌∙◌, arith, eqb-true, length-append, take_at, List, [], ◌∷◌, ◌++◌}
use Rattle.std.proofs.lemmas.Bool.{eqb-false, false≢true, true≢false}
use Rattle.laws.specs.Choice.{on_eq, off_eq}
use Rattle.laws.specs.Found.{nonzero, of_none, of_some_ne}
use Rattle.laws.specs.Sums.{sum_of, sum_append}
use Rattle.forwarding.specs.Text.{q_texts, t_texts}
use Rattle.forwarding.specs.Forwarded.{notes_of}
use Rattle.forwarding.specs.Between.{between}
use Rattle.forwarding.specs.Fields.{field_changes}
use Rattle.forwarding.specs.Sized.{z_at}
use Rattle.count.specs.Counting.{Counted, count_first, count_next, count_few, count_all}
use Rattle.judge.specs.Sums.{euros, euros_lt}
use Rattle.judge.specs.Records.{joined, file_of, Lengths}
use Rattle.judge.specs.Apart.{slots_from, slots_count}
use Rattle.structure.specs.Slots.{slot_at}
use Rattle.structure.specs.Walk.{structure_of}
use Rattle.structure.specs.Shape.{Fits}
use Rattle.sorting.specs.Kept.{kept, t_records, rule_in, kept_in, kept_file}
use Rattle.sorting.specs.Lists.{counts_add}
use Rattle.sorting.specs.Course.{place_of, kept_more, kept_no_more, records_sized, z_at_place, kept_below, kept_here}
use Rattle.sorting.specs.Frame.{fit, records_are, behind, records_split, records_more, z_of, kept_lengths, kept_few}
use Rattle.sorting.specs.Sorted.{shares, sorted_as}
use Rattle.sorting.specs.declared.Figures.{Figures}
use Rattle.sorting.specs.declared.Sorted.{Sorted}

abbrev pub figures_are : ℕ → ℕ → ℕ → Figures
figures_are payments euros changes = record { payments = payments; euros = euros; changes = changes }

-- with one payment more, of which rule is the first broken rule
abbrev pub with_one : Figures → ℕ → List ℕ → Figures
with_one f rule t =
    cond (eqb rule 0) (figures_are (f.payments + 1) (f.euros + euros t) (f.changes + field_changes t_texts t)) f

-- the answer where payments go on: of n payments with so many euros, those of the figures
abbrev pub going_on : Figures → ℕ → ℕ → Sorted
going_on f n euros =
    sorted_as 0 0 f.changes (shares f.payments (n - f.payments)) (shares f.euros (euros - f.euros))

-- the figures of fewer than 9,999 payments
pub record Small (f : Figures) : Type 0 where
  pub few : f.payments < 9999
  pub euros_fit : f.euros ≤ f.payments * 100000000000000
  pub changes_fit : f.changes ≤ 7679744

module _ (f : Figures) (rule : ℕ) (t : List ℕ) where
  pub one_returned : (rule ≡ 0 → ⊥) → f ≡ with_one f rule t
  one_returned r = off_eq _ r refl

  pub one_kept : {e c : ℕ} → rule ≡ 0 → e ≡ euros t → c ≡ field_changes t_texts t → figures_are (f.payments + 1) (f.euros + e) (f.changes + c) ≡ with_one f rule t
  one_kept r p q = on_eq _ r (λ i. figures_are (f.payments + 1) (f.euros + p i) (f.changes + q i))

-- no rule is found, or one is
is_zero : (o : Option ℕ) {r : ℕ} → o ≡ nonzero r → is_some o ≡ false → r ≡ 0
is_zero None e t = of_none e
is_zero (Some x) e t = absurd (true≢false t)

is_real : (o : Option ℕ) {r : ℕ} → o ≡ nonzero r → is_some o ≡ true → r ≡ 0 → ⊥
is_real None e t = absurd (false≢true t)
is_real (Some x) e t = of_some_ne e

-- f are the figures of the T records us, the first of those of which the kept stand in the file
pub record CountedTo (rule : List ℕ → ℕ) (us : List (List ℕ)) (file : List ℕ) (f : Figures) : Type 0 where
  pub payments_are : f.payments ≡ length (kept rule us)
  pub euros_are : f.euros ≡ sum_of euros (kept rule us)
  pub counted : Counted file f.changes (place_of f.payments)

sum_le : (ts : List (List ℕ)) → sum_of euros ts ≤ length ts * 100000000000000
sum_le [] = omega arith
sum_le (t ∷ ts) = omega (arith, sum_le ts, euros_lt t)

-- Q is counted first
pub count_q : (rule : List ℕ → ℕ) (q : List ℕ) (ks : List (List ℕ)) (z : List ℕ) {c : ℕ} → Lengths q ks z → length ks ≤ 9999
    → c ≡ field_changes q_texts q → CountedTo rule [] (file_of q ks z) (figures_are 0 0 c)
count_q rule q ks z sized few e =
    let front : between 0 256 (file_of q ks z) ≡ q = take_at q (joined ks ++ z) 256 sized.q_size in
    record {
      payments_are = refl;
      euros_are = refl;
      counted = count_first (records_sized q ks z sized few) (e ∙ ap (field_changes q_texts) (sym front));
    }

-- then one record t behind us, and before vs
module _ (rule : List ℕ → ℕ) (q : List ℕ) (us vs : List (List ℕ)) (t z : List ℕ) (sized : Lengths q (kept rule (us ++ (t ∷ vs))) z)
    (few : length (kept rule (us ++ (t ∷ vs))) ≤ 9999) {f : Figures} (h : CountedTo rule us (file_of q (kept rule (us ++ (t ∷ vs))) z) f) where
  abbrev whole : List ℕ
  whole = file_of q (kept rule (us ++ (t ∷ vs))) z

  count_kept : rule t ≡ 0 → CountedTo rule (us ++ (t ∷ [])) whole (figures_are (f.payments + 1) (f.euros + euros t) (f.changes + field_changes t_texts t))
  count_kept e =
      let place : place_of f.payments + 768 ≡ place_of (f.payments + 1) = omega arith in
      let more : place_of f.payments < z_at whole = omega (arith, h.payments_are, kept_below rule q us vs t z e sized, z_at_place q (kept rule (us ++ (t ∷ vs))) z sized few) in
      let here : between (place_of f.payments) (place_of f.payments + 768) whole ≡ t =
      ap (λ (m : ℕ). between (place_of m) (place_of m + 768) whole) h.payments_are ∙ kept_here rule q us vs t z e sized in
      record {
        payments_are = omega (arith, h.payments_are, ap length (kept_more rule us t e), length-append (kept rule us) (t ∷ []));
        euros_are = omega (arith, h.euros_are, ap (sum_of euros) (kept_more rule us t e), sum_append euros (kept rule us) (t ∷ []));
        counted = subst (Counted whole (f.changes + field_changes t_texts t)) place (count_next (records_sized q (kept rule (us ++ (t ∷ vs))) z sized few) h.counted more (ap (field_changes t_texts) (sym here)));
      }

  count_returned : (rule t ≡ 0 → ⊥) → CountedTo rule (us ++ (t ∷ [])) whole f
  count_returned r =
      record {
        payments_are = h.payments_are ∙ ap length (sym (kept_no_more rule us t r));
        euros_are = h.euros_are ∙ ap (sum_of euros) (sym (kept_no_more rule us t r));
        counted = h.counted;
      }

  pub count_one : (first : ℕ) → first ≡ rule t → CountedTo rule (us ++ (t ∷ [])) whole (with_one f first t)
  count_one first e = go (eqb first 0) refl
    where
      go : (b : Bool) → eqb first 0 ≡ b
          → CountedTo rule (us ++ (t ∷ [])) whole (cond b (figures_are (f.payments + 1) (f.euros + euros t) (f.changes + field_changes t_texts t)) f)
      go true p = count_kept (sym e ∙ eqb-true first 0 p)
      go false p = count_returned (λ z. eqb-false first 0 p (e ∙ z))

  pub count_small : length us < 9999 → length (kept rule us) ≤ length us → Small f
  count_small l m =
      record {
        few = omega (arith, h.payments_are);
        euros_fit = omega (arith, h.euros_are, h.payments_are, sum_le (kept rule us));
        changes_fit = omega (arith, count_few (records_sized q (kept rule (us ++ (t ∷ vs))) z sized few) h.counted, h.payments_are);
      }

-- all records
pub count_end : (rule : List ℕ → ℕ) (q : List ℕ) (us : List (List ℕ)) (z : List ℕ) {f : Figures} → Lengths q (kept rule us) z → length (kept rule us) ≤ 9999
    → CountedTo rule us (file_of q (kept rule us) z) f → (page : ℕ)
    → f ≡ figures_are (length (kept rule us)) (sum_of euros (kept rule us)) (length (notes_of page (file_of q (kept rule us) z)))
count_end rule q us z {f} sized few h page =
    let all = count_all (records_sized q (kept rule us) z sized few) h.counted (omega (arith, h.payments_are, z_at_place q (kept rule us) z sized few)) page in
    λ i. figures_are (h.payments_are i) (h.euros_are i) (all i)

-- of a file that fits, after its first k T records
abbrev pub CountedIn : ℕ → List ℕ → List ℕ → List ℕ → ℕ → Figures → Type 0
CountedIn page file transfer cheque k f =
    CountedTo (rule_in page file transfer cheque) (slots_from file 1 k) (kept_file page file transfer cheque) f

unfoldable pub figures_of : ℕ → List ℕ → List ℕ → List ℕ → Figures
figures_of page file transfer cheque =
    figures_are (length (kept_in page file transfer cheque)) (sum_of euros (kept_in page file transfer cheque)) (length (notes_of page (kept_file page file transfer cheque)))

module _ (page : ℕ) (file transfer cheque : List ℕ) (n : ℕ) (e : structure_of file ≡ Fits n) where
  abbrev rule : List ℕ → ℕ
  rule t = rule_in page file transfer cheque t

  pub counted_q : {c : ℕ} → c ≡ field_changes q_texts (slot_at file 0) → CountedIn page file transfer cheque 0 (figures_are 0 0 c)
  unfolding kept_file
  counted_q q =
      count_q rule (slot_at file 0) (kept_in page file transfer cheque) (z_of file n e page transfer cheque)
      (kept_lengths file n e page transfer cheque) (kept_few file n e page transfer cheque) q

  -- record k + 1 is counted behind the first k
  counted_behind : (ts : List (List ℕ)) (z : List ℕ) (k : ℕ) {f : Figures} (first : ℕ) → k < n → ts ≡ slots_from file 1 k ++ (slot_at file (k + 1) ∷ behind file n e k)
      → Lengths (slot_at file 0) (kept rule ts) z → length (kept rule ts) ≤ 9999 → first ≡ rule (slot_at file (k + 1))
      → CountedTo rule (slots_from file 1 k) (file_of (slot_at file 0) (kept rule ts) z) f
      → Small f × CountedTo rule (slots_from file 1 (k + 1)) (file_of (slot_at file 0) (kept rule ts) z) (with_one f first (slot_at file (k + 1)))
  counted_behind ts z k {f} first l split sized few asked h =
      let q = slot_at file 0 in
      let us = slots_from file 1 k in
      let vs = behind file n e k in
      let t = slot_at file (k + 1) in
      let many : length us < 9999 = omega (arith, slots_count file 1 k, (fit file n e).most) in
      let sized' : Lengths q (kept rule (us ++ (t ∷ vs))) z = subst (λ (l : List (List ℕ)). Lengths q (kept rule l) z) split sized in
      let few' : length (kept rule (us ++ (t ∷ vs))) ≤ 9999 = subst (λ (l : List (List ℕ)). length (kept rule l) ≤ 9999) split few in
      let h' : CountedTo rule us (file_of q (kept rule (us ++ (t ∷ vs))) z) f = subst (λ (l : List (List ℕ)). CountedTo rule us (file_of q (kept rule l) z) f) split h in (
        count_small rule q us vs t z sized' few' h' many (omega (arith, counts_add rule us)),
        subst (λ (l : List (List ℕ)). CountedTo rule l (file_of q (kept rule ts) z) (with_one f first t)) (sym (records_more file n e k))
            (subst (λ (l : List (List ℕ)). CountedTo rule (us ++ (t ∷ [])) (file_of q (kept rule l) z) (with_one f first t)) (sym split)
            (count_one rule q us vs t z sized' few' h' first asked)),
      )

  module _ (k : ℕ) (l : k < n) {f : Figures} (h : CountedIn page file transfer cheque k f) where
    pub counted_next : (first : ℕ) → first ≡ rule (slot_at file (k + 1))
        → Small f × CountedIn page file transfer cheque (k + 1) (with_one f first (slot_at file (k + 1)))
    unfolding kept_file
    counted_next first asked =
        counted_behind (t_records file) (z_of file n e page transfer cheque) k first l (records_split file n e k l)
        (kept_lengths file n e page transfer cheque) (kept_few file n e page transfer cheque) asked h

  -- by what is found: one that is kept, and one that is returned
  module _ (k : ℕ) (l : k < n) {f : Figures} (h : CountedIn page file transfer cheque k f) where
    pub counted_small : Small f
    counted_small = (counted_next k l h (rule (slot_at file (k + 1))) refl).0

    module _ (o : Option ℕ) (told : o ≡ nonzero (rule (slot_at file (k + 1)))) where
      pub counted_kept : is_some o ≡ false → CountedIn page file transfer cheque (k + 1) (with_one f 0 (slot_at file (k + 1)))
      counted_kept t = (counted_next k l h 0 (sym (is_zero o told t))).1

      pub counted_returned : is_some o ≡ true → CountedIn page file transfer cheque (k + 1) f
      counted_returned t =
          subst (CountedIn page file transfer cheque (k + 1)) (sym (one_returned f (rule (slot_at file (k + 1))) (slot_at file (k + 1)) (is_real o told t)))
          (counted_next k l h (rule (slot_at file (k + 1))) refl).1

  pub counted_all : {f : Figures} → CountedIn page file transfer cheque n f → f ≡ figures_of page file transfer cheque
  unfolding kept_file figures_of
  counted_all {f} h =
      count_end rule (slot_at file 0) (t_records file) (z_of file n e page transfer cheque)
      (kept_lengths file n e page transfer cheque) (kept_few file n e page transfer cheque)
      (subst (λ (ts : List (List ℕ)). CountedTo rule ts (file_of (slot_at file 0) (kept_in page file transfer cheque) (z_of file n e page transfer cheque)) f) (sym (records_are file n e)) h) page
