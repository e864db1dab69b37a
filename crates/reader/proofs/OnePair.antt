-- With one pair of lists throughout, a reading means what the judge says of the joined bytes.
use Rattle.std.proofs.Common.{ℕ, ◌+◌, ◌*◌, ◌-◌, ◌≤◌, ◌<◌, List, [], ◌∷◌, ◌≡◌, Bool, true, false, ltb, length, refl, ap, arith, ltb-false, length-append, cond}
use Rattle.std.proofs.lemmas.Bool.Decides.{nat_tests}
use Rattle.charset.specs.Table.{is_page}
use Rattle.records.specs.Places.{record_at}
use Rattle.structure.specs.Slots.{place_is}
use Rattle.structure.specs.Walk.{structure_of}
use Rattle.structure.specs.Fits.{fits}
use Rattle.structure.specs.Shape.{Shape, Fits, Refused}
use Rattle.judge.specs.Content.{fault_of, rule_from, rule_end, content_of}
use Rattle.judge.specs.Sums.{euro_sum, cent_sum}
use Rattle.judge.specs.Verdict.{refused, sound, unless, verdict_by, verdict_of, or_taken, judge_of}
use Rattle.judge.specs.declared.Breach.{Breach}
use Rattle.judge.specs.declared.Verdict.{Verdict}
use Rattle.tally.specs.SoFar.{same_breach, same_so_far}
use Rattle.reader.specs.Cuts.{Cut, joined, holding, LentWith, read_fault, read_content, read_by, read_verdict, read_judged}

-- the cut that holds a byte came with the pair
held_with : (t ch : List ℕ) (cuts : List Cut) → LentWith t ch cuts → (place : ℕ) → place < length (joined cuts)
    → ((holding cuts place).transfer ≡ t) × ((holding cuts place).cheque ≡ ch)
held_with t ch [] w place h = absurd (omega arith)
held_with t ch (cut ∷ cuts) w place h = go (ltb place (length cut.bytes)) refl (held_with t ch cuts w.2 (place - length cut.bytes))
  where
    go : (b : Bool) → ltb place (length cut.bytes) ≡ b
        → (place - length cut.bytes < length (joined cuts)
        → ((holding cuts (place - length cut.bytes)).transfer ≡ t) × ((holding cuts (place - length cut.bytes)).cheque ≡ ch))
        → ((cond b cut (holding cuts (place - length cut.bytes))).transfer ≡ t) × ((cond b cut (holding cuts (place - length cut.bytes))).cheque ≡ ch)
    go true e ih = (w.0, w.1)
    go false e ih = ih (omega (arith, ltb-false place (length cut.bytes) e, length-append cut.bytes (joined cuts)))

-- only a T record is judged by the lists
same_fault : (page : ℕ) (file : List ℕ) (n e k rule : ℕ) {t ch u ch' : List ℕ} → (1 ≤ k → k ≤ n → (t ≡ u) × (ch ≡ ch'))
    → fault_of page file n e t ch k rule ≡ fault_of page file n e u ch' k rule
unfolding fault_of
same_fault page file n e k rule h = grind (arith, nat_tests)

module _ (page : ℕ) (cuts : List Cut) (t ch : List ℕ) (w : LentWith t ch cuts) where
  content_with : (n e : ℕ) → length (joined cuts) ≡ 512 + 768 * n → read_content page cuts n e ≡ content_of page (joined cuts) n e t ch
  unfolding read_content content_of
  content_with n e long =
      same_so_far (read_fault page cuts n e) (fault_of page (joined cuts) n e t ch) (rule_from n) (rule_end n) (rule_from n) (rule_end n) (n + 2)
      (λ k l. same_breach (read_fault page cuts n e) (fault_of page (joined cuts) n e t ch) (rule_from n) (rule_end n) (rule_from n) (rule_end n) k
      (λ rule. same_fault page (joined cuts) n e k rule (λ a b. held_with t ch cuts w (record_at (k + 1) - 1) (omega (arith, place_is (k + 1))))) refl refl)

  verdict_with : read_verdict page cuts ≡ verdict_of page (joined cuts) t ch
  unfolding read_verdict verdict_of
  verdict_with = go (structure_of (joined cuts)) refl
    where
      go : (s : Shape) → structure_of (joined cuts) ≡ s → read_by s page cuts ≡ verdict_by s page (joined cuts) t ch
      go (Refused number rec) e = refl
      go (Fits n) e =
          ap (λ (b : Breach). unless b (sound n (euro_sum (joined cuts) n) (cent_sum (joined cuts) n)))
          (content_with n (euro_sum (joined cuts) n) (fits (joined cuts) n e).long)

  pub judged_with : (taken : List ℕ) → read_judged page cuts taken ≡ judge_of page (joined cuts) t ch taken
  unfolding read_judged judge_of
  judged_with taken = ap (λ (v : Verdict). cond (is_page page) (or_taken v (joined cuts) taken) (refused 7 0 0)) verdict_with
