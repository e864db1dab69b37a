-- The verdict by what the walk, the sums and the rules found.
use Rattle.std.specs.Prelude.{ℕ, ◌≡◌, Bool, true, false, not, List}
use Rattle.std.proofs.Math.Path.{refl, ap}
use Rattle.std.proofs.Common.{sym, ap₂, ◌∙◌, inl, inr, arith}
use Rattle.laws.specs.Choice.{on_eq, off_eq, on_call, off_call, on_not, off_not}
use Rattle.charset.specs.Table.{is_page}
use Rattle.fields.specs.Lists.{is_taken}
use Rattle.structure.specs.Slots.{slot_at}
use Rattle.structure.specs.Walk.{structure_of}
use Rattle.structure.specs.Fits.{Fit, Tells, tells}
use Rattle.structure.specs.Shape.{Shape, Fits, Refused}
use Rattle.judge.specs.Content.{content_of}
use Rattle.judge.specs.Sums.{euro_sum, cent_sum, file_number}
use Rattle.judge.specs.Verdict.{refused, sound, unless, verdict_by, verdict_of, or_taken, judge_of}
use Rattle.judge.specs.declared.Breach.{Breach}
use Rattle.judge.specs.declared.Verdict.{Verdict}

module _ (page : ℕ) (file transfer cheque : List ℕ) where
  pub told_refused : (number rec : ℕ) → structure_of file ≡ Refused number rec → refused number rec 0 ≡ verdict_of page file transfer cheque
  unfolding verdict_of
  told_refused number rec e = ap (λ (s : Shape). verdict_by s page file transfer cheque) (sym e)

  pub told_fits : (n : ℕ) → structure_of file ≡ Fits n
      → unless (content_of page file n (euro_sum file n) transfer cheque) (sound n (euro_sum file n) (cent_sum file n))
      ≡ verdict_of page file transfer cheque
  unfolding verdict_of
  told_fits n e = ap (λ (s : Shape). verdict_by s page file transfer cheque) (sym e)

  module _ (n euros cents : ℕ) (b : Breach) (e : structure_of file ≡ Fits n) (p : euros ≡ euro_sum file n) (q : cents ≡ cent_sum file n)
      (r : b ≡ content_of page file n euros transfer cheque) where
    by_content : unless b (sound n euros cents) ≡ verdict_of page file transfer cheque
    by_content =
        ap₂ unless (r ∙ ap (λ (m : ℕ). content_of page file n m transfer cheque) p) (ap₂ (sound n) p q) ∙ told_fits n e

    pub told_sound : b.number ≡ 0 → sound n euros cents ≡ verdict_of page file transfer cheque
    told_sound z = on_eq _ z refl ∙ by_content

    pub told_broken : (b.number ≡ 0 → ⊥) → refused b.number b.rec b.at ≡ verdict_of page file transfer cheque
    told_broken z = off_eq {y = refused b.number b.rec b.at} (sound n euros cents) z refl ∙ by_content

  -- what is not refused fits
  pub sound_fits : (verdict_of page file transfer cheque).number ≡ 0 → (n : ℕ) × (structure_of file ≡ Fits n) × Fit file n
  unfolding verdict_of
  sound_fits z = go (structure_of file) refl (tells file) z
    where
      go : (s : Shape) → structure_of file ≡ s → Tells file s → (verdict_by s page file transfer cheque).number ≡ 0
          → (n : ℕ) × (structure_of file ≡ Fits n) × Fit file n
      go (Fits n) e t z = (n, e, t.1)
      go (Refused number rec) e (inl t) z = absurd (omega (arith, t.1))
      go (Refused number rec) e (inr t) z = absurd (t.1.real z)

-- the judge's answer by what was found: there whether the page exists, v the verdict, m the file's number, t whether it is
-- taken
module _ (page : ℕ) (file transfer cheque taken : List ℕ) {there : Bool} (known : there ≡ is_page page) where
  pub judged_no_page : not there ≡ true → refused 7 0 0 ≡ judge_of page file transfer cheque taken
  unfolding judge_of
  judged_no_page n = off_not _ known n refl

  module _ (named : not there ≡ false) {v : Verdict} (e : v ≡ verdict_of page file transfer cheque) where
    by_verdict : {w : Verdict} → w ≡ or_taken v file taken → w ≡ judge_of page file transfer cheque taken
    unfolding judge_of
    by_verdict h = on_not (refused 7 0 0) known named (h ∙ ap (λ (u : Verdict). or_taken u file taken) e)

    pub judged_refused : (v.number ≡ 0 → ⊥) → v ≡ judge_of page file transfer cheque taken
    judged_refused z = by_verdict (off_eq _ z refl)

    module _ (z : v.number ≡ 0) {q : List ℕ} {m : ℕ} {t : Bool} (s : q ≡ slot_at file 0) (p : m ≡ file_number q) (r : t ≡ is_taken taken m) where
      tells_taken : t ≡ is_taken taken (file_number (slot_at file 0))
      tells_taken = r ∙ ap (is_taken taken) (p ∙ ap file_number s)

      pub judged_taken : t ≡ true → refused 50 0 0 ≡ judge_of page file transfer cheque taken
      judged_taken y = by_verdict (on_eq _ z (on_call _ tells_taken y refl))

      pub judged_free : t ≡ false → v ≡ judge_of page file transfer cheque taken
      judged_free y = by_verdict (on_eq _ z (off_call (refused 50 0 0) tells_taken y refl))
