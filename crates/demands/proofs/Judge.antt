-- The judge's answer: of a sound file its payments and sums, or 50 where its number is taken; of any other the first broken
-- rule, and zeros.
use Prim.Native.Nat.{ℕ, ◌+◌}
use mathlib.Core.Path.{◌≡◌, refl, sym, ap, ap₂, subst, ◌∙◌}
use mathlib.Core.Bool.{Bool, true, false, cond, false≢true}
use mathlib.Core.List.{List}
use native.Mathlib.Omega.{arith}
use borrow.Author.Tests.{eqb-true, eqb-false}
use lib.Dec.{eqb}
use lib.ListN.{length}
use Rattle.laws.specs.Sums.{sum_of}
use Rattle.fields.specs.Lists.{is_taken}
use Rattle.structure.specs.Slots.{slot_at}
use Rattle.structure.specs.Walk.{structure_of}
use Rattle.structure.specs.Fits.{Fit}
use Rattle.structure.specs.Shape.{Shape, Fits, Refused}
use Rattle.judge.specs.Sums.{euros, cents, euro_sum, cent_sum, file_number}
use Rattle.judge.specs.Records.{file_of}
use Rattle.judge.specs.ByRecords.{sum_by_records, cents_by_records}
use Rattle.judge.specs.Apart.{slots_from, slots_count, made}
use Rattle.judge.specs.Content.{content_of}
use Rattle.judge.specs.Verdict.{refused, sound, unless, verdict_by, verdict_of, or_taken, judge_of}
use Rattle.judge.specs.Told.{told_fits, sound_fits}
use Rattle.judge.specs.declared.Breach.{Breach}
use Rattle.judge.specs.declared.Verdict.{Verdict}
use Rattle.demands.specs.Demand2.{Answered, Counted, Zeros, Judges, JudgeAnswers}
use Rattle.demands.proofs.Pages.{on_page}
use Rattle.demands.proofs.Demand2.{judged}

-- by what the rules found, fault: the answer of a sound file, or a refusal
module _ (fault : Breach) (v : Verdict) where
  unless_sound : v.number ≡ 0 → (unless fault v).number ≡ 0 → unless fault v ≡ v
  unless_sound z = go (eqb fault.number 0) refl
    where
      go : (t : Bool) → eqb fault.number 0 ≡ t → (cond t v (refused fault.number fault.rec fault.at)).number ≡ 0
          → cond t v (refused fault.number fault.rec fault.at) ≡ v
      go true e q = refl
      go false e q = absurd (eqb-false _ _ e q)

  unless_zeros : v.number ≡ 0 → ((unless fault v).number ≡ 0 → ⊥) → Zeros (unless fault v)
  unless_zeros z = go (eqb fault.number 0)
    where
      go : (t : Bool) → ((cond t v (refused fault.number fault.rec fault.at)).number ≡ 0 → ⊥) → Zeros (cond t v (refused fault.number fault.rec fault.at))
      go true n = absurd (n z)
      go false n = (refl, refl, refl)

module _ (page : ℕ) (file transfer cheque : List ℕ) where
  pub refused_zeros : ((verdict_of page file transfer cheque).number ≡ 0 → ⊥) → Zeros (verdict_of page file transfer cheque)
  unfolding verdict_of
  refused_zeros = go (structure_of file)
    where
      go : (s : Shape) → ((verdict_by s page file transfer cheque).number ≡ 0 → ⊥) → Zeros (verdict_by s page file transfer cheque)
      go (Refused number rec) n = (refl, refl, refl)
      go (Fits m) n =
          unless_zeros (content_of page file m (euro_sum file m) transfer cheque) (sound m (euro_sum file m) (cent_sum file m)) refl n

  -- a sound file of n payments
  module _ (z : (verdict_of page file transfer cheque).number ≡ 0) (n : ℕ) (e : structure_of file ≡ Fits n) (fit : Fit file n) where
    v_is : verdict_of page file transfer cheque ≡ sound n (euro_sum file n) (cent_sum file n)
    v_is =
        let told = told_fits page file transfer cheque n e in
        sym told
        ∙ unless_sound (content_of page file n (euro_sum file n) transfer cheque) (sound n (euro_sum file n) (cent_sum file n)) refl
        (ap (λ (v : Verdict). v.number) told ∙ z)

    -- a sum over the file's records is one over the T records that make it up
    by_records : (total : List ℕ → ℕ → ℕ) (f : List ℕ → ℕ)
        → total (file_of (slot_at file 0) (slots_from file 1 n) (slot_at file (n + 1))) (length (slots_from file 1 n)) ≡ sum_of f (slots_from file 1 n)
        → total file n ≡ sum_of f (slots_from file 1 n)
    by_records total f q = ap₂ total (made file n fit).1 (sym (slots_count file 1 n)) ∙ q

    counted : Counted file (verdict_of page file transfer cheque)
    counted =
        let lengths = (made file n fit).0 in
        record {
          q = slot_at file 0;
          ts = slots_from file 1 n;
          z = slot_at file (n + 1);
          made = made file n fit;
          payments_are = ap (λ (v : Verdict). v.payments) v_is ∙ sym (slots_count file 1 n);
          euros_are = ap (λ (v : Verdict). v.euros) v_is ∙ by_records euro_sum euros (sum_by_records _ _ _ lengths);
          cents_are = ap (λ (v : Verdict). v.cents) v_is ∙ by_records cent_sum cents (cents_by_records _ _ _ lengths);
        }

  sound_told : (verdict_of page file transfer cheque).number ≡ 0
      → ((verdict_of page file transfer cheque).rec ≡ 0) × Counted file (verdict_of page file transfer cheque)
  sound_told z =
      let f = sound_fits page file transfer cheque z in
      (ap (λ (v : Verdict). v.rec) (v_is z f.0 f.1 f.2), counted z f.0 f.1 f.2)

judges : (page : ℕ) (file transfer cheque taken : List ℕ)
    → Judges page transfer cheque taken file (or_taken (verdict_of page file transfer cheque) file taken)
judges page file transfer cheque taken = go (eqb v.number 0) (is_taken taken (file_number (slot_at file 0))) refl refl
  where
    v : Verdict
    v = verdict_of page file transfer cheque

    a : Answered page transfer cheque file (verdict_of page file transfer cheque).number (verdict_of page file transfer cheque).rec (verdict_of page file transfer cheque).at
    a = judged page transfer cheque file

    go : (zero used : Bool) → eqb (verdict_of page file transfer cheque).number 0 ≡ zero → is_taken taken (file_number (slot_at file 0)) ≡ used
        → Judges page transfer cheque taken file (cond zero (cond used (refused 50 0 0) (verdict_of page file transfer cheque)) (verdict_of page file transfer cheque))
    go true true e t =
        record {
          free = λ s f. absurd (false≢true (sym f ∙ t));
          used = λ s u. (refl, refl, refl, (refl, refl, refl));
          unsound = λ n. absurd (n (a.sound.0 (eqb-true _ _ e)));
        }
    go true false e t =
        let z = eqb-true _ _ e in
        let told = sound_told page file transfer cheque z in
        record {
          free = λ s f. (z, told.0, a.place.nowhere (omega (arith, z)), told.1);
          used = λ s u. absurd (false≢true (sym t ∙ u));
          unsound = λ n. absurd (n (a.sound.0 z));
        }
    go false used e t =
        let ne = eqb-false _ _ e in
        record {
          free = λ s f. absurd (ne (a.sound.1 s));
          used = λ s u. absurd (ne (a.sound.1 s));
          unsound = λ n. (a.first ne, a.place, refused_zeros page file transfer cheque ne);
        }

pub judge_answers : JudgeAnswers
unfolding judge_of
judge_answers page file transfer cheque taken answer there promise =
    let found = or_taken (verdict_of page file transfer cheque) file taken in
    subst (Judges page transfer cheque taken file) (sym (on_page page (λ (v : Verdict). v.number) found (refused 7 0 0) answer promise there))
    (judges page file transfer cheque taken)
