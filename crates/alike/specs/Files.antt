-- A file and its forwarded file are judged alike: the structure is read from heads, which are no text, and every rule
-- says the same of a record and of the record as it is forwarded.
use Prim.Native.Nat.{ℕ, zero, suc, ◌+◌, ◌-◌, ◌%◌, ◌≤◌, ◌<◌}
use Rattle.std.specs.Prelude.{◌≡◌, Bool, ◌&&◌, cond, List, leb, length, get_or, take, drop}
use Rattle.std.proofs.Math.Path.{refl, ap, ap₂, fun_ext}
use Rattle.std.proofs.Common.{sym, subst, ◌∙◌, lit<, lit≤, length-take, get_or-take, take-take}
use Rattle.std.proofs.Math.Bool.{true, false, and-false}
use native.Mathlib.Omega.{arith}
use borrow.Author.Tests.{eqb-true, eqb-false, leb-true, leb-false, lt-ltb, le-ltb}
use Rattle.std.proofs.Math.Dec.{eqb, ltb}
use Rattle.charset.specs.Table.{rep}
use Rattle.records.specs.Places.{◌to◌, record_at}
use Rattle.structure.specs.Slots.{width_at, slot_at, place_is, slot_length, later_width}
use Rattle.structure.specs.Walk.{letter_of, fault_in, stops, told, structure_of}
use Rattle.structure.specs.Fits.{Fit, Tells, tells}
use Rattle.structure.specs.Shape.{Shape, Fits, Refused}
use Rattle.rules.specs.Faults.{q_fault, z_fault}
use Rattle.payments.specs.Rules.{key_of}
use Rattle.payments.specs.Faults.{t_fault}
use Rattle.judge.specs.First.{first_broken}
use Rattle.judge.specs.Content.{fault_of, rule_from, rule_end, content_of}
use Rattle.judge.specs.Sums.{euro_sum, cent_sum}
use Rattle.judge.specs.Verdict.{unless, sound, verdict_by, verdict_of}
use Rattle.forwarding.specs.Text.{lies, q_texts, t_texts, textual, text_at}
use Rattle.forwarding.specs.Forwarded.{fwd, forwarded}
use Rattle.forwarding.specs.Parts.{fwd_length}
use Rattle.forwarding.specs.Pieces.{text_q}
use Rattle.forwarding.specs.RoundTrip.{forwarded_length}
use Rattle.alike.specs.Reads.{Alike, alike, fwd_drop, fwd_take, fwd_none, fwd_from, lies_apart}
use Rattle.alike.specs.Rules.{q_as, t_as, key_as, euros_as, cents_as}

-- text places by record: offset i of record k
pub text_t : (k i : ℕ) → 1 ≤ k → i < 768 → textual (record_at k + i) ≡ lies t_texts i
unfolding textual
text_t k i h l =
    let off : (record_at k + i - 256) % 768 ≡ i = omega (arith, place_is k) in
    ap (λ (b : Bool). cond b (lies q_texts (record_at k + i)) (lies t_texts ((record_at k + i - 256) % 768))) (le-ltb (record_at k + i) 256 (omega (arith, place_is k)))
    ∙ ap (lies t_texts) off

module _ (page : ℕ) (file : List ℕ) where
  is_text : ℕ → Bool
  is_text = text_at (length file)

  -- the slot of a forwarded file
  slot_fwd : (k : ℕ) → slot_at (forwarded page file) k ≡ fwd (rep page) is_text (0 + record_at k) (slot_at file k)
  unfolding slot_at forwarded is_text
  slot_fwd k =
      ap (take (width_at k)) (fwd_drop (rep page) (text_at (length file)) (record_at k) 0 file)
      ∙ fwd_take (rep page) (text_at (length file)) (width_at k) (0 + record_at k) (drop (record_at k) file)

  slot_same : (k : ℕ) → length (slot_at (forwarded page file) k) ≡ length (slot_at file k)
  slot_same k = ap length (slot_fwd k) ∙ fwd_length (rep page) is_text (0 + record_at k) (slot_at file k)

  -- no text among the first five offsets of a record
  head_plain : (k i : ℕ) → i < 5 → is_text (record_at k + i) ≡ false
  unfolding is_text text_at
  head_plain k i h = ap (λ (b : Bool). ltb (record_at k + i + 256) (length file) && b) (go (eqb k 0) refl) ∙ and-false (ltb (record_at k + i + 256) (length file))
    where
      go : (b : Bool) → eqb k 0 ≡ b → textual (record_at k + i) ≡ false
      go true e =
          let z : record_at k + i ≡ i = omega (arith, place_is k, eqb-true k 0 e) in
          ap textual z ∙ text_q i (omega arith) ∙ lies_apart q_texts (0 to 4) i refl (omega arith) h
      go false e = text_t k i (omega (arith, eqb-false k 0 e)) (omega arith) ∙ lies_apart t_texts (0 to 4) i refl (omega arith) h

  head_same : (k : ℕ) → take 5 (slot_at (forwarded page file) k) ≡ take 5 (slot_at file k)
  head_same k =
      ap (take 5) (slot_fwd k) ∙ fwd_take (rep page) is_text 5 (0 + record_at k) (slot_at file k)
      ∙ fwd_none (rep page) is_text (0 + record_at k) (take 5 (slot_at file k)) at
    where
      at : (j : ℕ) → 0 + record_at k ≤ j → j < 0 + record_at k + length (take 5 (slot_at file k)) → is_text j ≡ false
      at j p q =
          let z : record_at k + (j - record_at k) ≡ j = omega arith in
          subst (λ (i : ℕ). is_text i ≡ false) z (head_plain k (j - record_at k) (omega (arith, length-take 5 (slot_at file k))))

  letter_same : (k : ℕ) → letter_of (slot_at (forwarded page file) k) ≡ letter_of (slot_at file k)
  letter_same k =
      sym (get_or-take 5 (slot_at (forwarded page file) k) 4 0 (lit< tt)) ∙ ap (λ (l : List ℕ). get_or l 4 0) (head_same k)
      ∙ get_or-take 5 (slot_at file k) 4 0 (lit< tt)

  digits_same : (k : ℕ) → take 4 (slot_at (forwarded page file) k) ≡ take 4 (slot_at file k)
  digits_same k =
      sym (take-take 4 5 (slot_at (forwarded page file) k) (lit≤ tt)) ∙ ap (take 4) (head_same k) ∙ take-take 4 5 (slot_at file k) (lit≤ tt)

  fault_same : (k : ℕ) → fault_in k (slot_at (forwarded page file) k) ≡ fault_in k (slot_at file k)
  unfolding fault_in
  fault_same k = rw (slot_same k, letter_same k, digits_same k)

  pub structure_same : structure_of (forwarded page file) ≡ structure_of file
  unfolding structure_of
  structure_same =
      let stop : stops (forwarded page file) ≡ stops file = fun_ext (λ k. rw (fault_same k, letter_same k)) in
      let tell : told (forwarded page file) ≡ told file = fun_ext (λ k. rw (fault_same k)) in
      rw (forwarded_length page file, stop, tell)

  module _ (n : ℕ) (fit : Fit file n) where
    -- the records of a file that fits
    inside : (k i : ℕ) → k ≤ n → i < width_at k → ltb (record_at k + i + 256) (length file) ≡ true
    inside k i h l = lt-ltb _ _ (go (eqb k 0) refl l)
      where
        go : (b : Bool) → eqb k 0 ≡ b → i < cond b 256 768 → record_at k + i + 256 < length file
        go true e l = omega (arith, place_is k, eqb-true k 0 e, fit.long, fit.some)
        go false e l = omega (arith, place_is k, eqb-false k 0 e, fit.long)

    at_record : (k i : ℕ) → k ≤ n → i < width_at k → is_text (0 + record_at k + i) ≡ textual (record_at k + i)
    unfolding is_text text_at
    at_record k i h l =
        let z : 0 + record_at k + i ≡ record_at k + i = omega arith in
        ap (text_at (length file)) z ∙ ap (λ (b : Bool). b && textual (record_at k + i)) (inside k i h l)

    q_alike : Alike page q_texts (slot_at file 0) (slot_at (forwarded page file) 0)
    q_alike = subst (Alike page q_texts (slot_at file 0)) (sym (slot_fwd 0 ∙ from)) (alike page q_texts (slot_at file 0))
      where
        at : (i : ℕ) → i < length (slot_at file 0) → is_text (0 + record_at 0 + i) ≡ lies q_texts (0 + i)
        at i l =
            let z : 0 + i ≡ i = omega arith in
            let short : i < 256 = omega (arith, slot_length file 0) in
            at_record 0 i (omega arith) short ∙ ap textual z ∙ text_q i short ∙ ap (lies q_texts) (sym z)

        from : fwd (rep page) is_text (0 + record_at 0) (slot_at file 0) ≡ fwd (rep page) (lies q_texts) 0 (slot_at file 0)
        from = fwd_from (rep page) is_text (lies q_texts) (0 + record_at 0) 0 (slot_at file 0) at

    t_alike : (k : ℕ) → 1 ≤ k → k ≤ n → Alike page t_texts (slot_at file k) (slot_at (forwarded page file) k)
    t_alike k h l = subst (Alike page t_texts (slot_at file k)) (sym (slot_fwd k ∙ from)) (alike page t_texts (slot_at file k))
      where
        at : (i : ℕ) → i < length (slot_at file k) → is_text (0 + record_at k + i) ≡ lies t_texts (0 + i)
        at i m =
            let z : 0 + i ≡ i = omega arith in
            let short : i < 768 = omega (arith, rw (later_width k h) at (slot_length file k)) in
            at_record k i l (rw (later_width k h) short) ∙ text_t k i h short ∙ ap (lies t_texts) (sym z)

        from : fwd (rep page) is_text (0 + record_at k) (slot_at file k) ≡ fwd (rep page) (lies t_texts) 0 (slot_at file k)
        from = fwd_from (rep page) is_text (lies t_texts) (0 + record_at k) 0 (slot_at file k) at

    -- Z, and past it
    z_same : (k : ℕ) → n < k → slot_at (forwarded page file) k ≡ slot_at file k
    unfolding is_text text_at
    z_same k h =
        slot_fwd k
        ∙ fwd_none (rep page) is_text (0 + record_at k) (slot_at file k)
        (λ j p q. ap (λ (b : Bool). b && textual j) (le-ltb (j + 256) (length file) (omega (arith, place_is k, fit.long))))

    euros_same : (k : ℕ) → k ≤ n → euro_sum (forwarded page file) k ≡ euro_sum file k
    unfolding euro_sum
    euros_same zero h = refl
    euros_same (suc k) h = ap₂ ◌+◌ (euros_same k (omega arith)) (euros_as page _ _ (t_alike (suc k) (omega arith) h))

    cents_same : (k : ℕ) → k ≤ n → cent_sum (forwarded page file) k ≡ cent_sum file k
    unfolding cent_sum
    cents_same zero h = refl
    cents_same (suc k) h = ap₂ ◌+◌ (cents_same k (omega arith)) (cents_as page _ _ (t_alike (suc k) (omega arith) h))

    module _ (transfer cheque : List ℕ) where
      rules_same : (k rule : ℕ)
          → fault_of page (forwarded page file) n (euro_sum (forwarded page file) n) transfer cheque k rule
          ≡ fault_of page file n (euro_sum file n) transfer cheque k rule
      unfolding fault_of
      rules_same k rule = go (eqb k 0) (leb k n) refl refl
        where
          key : key_of (slot_at (forwarded page file) 1) ≡ key_of (slot_at file 1)
          key = key_as page _ _ (t_alike 1 (omega arith) fit.some)

          of_t : (key : List ℕ) → 1 ≤ k → k ≤ n
              → t_fault page transfer cheque key (slot_at (forwarded page file) k) rule ≡ t_fault page transfer cheque key (slot_at file k) rule
          of_t key h l = t_as page _ _ (t_alike k h l) transfer cheque key rule

          go : (a b : Bool) → eqb k 0 ≡ a → leb k n ≡ b
              → cond a (q_fault page (slot_at (forwarded page file) 0) rule)
              (cond b (t_fault page transfer cheque (key_of (slot_at (forwarded page file) 1)) (slot_at (forwarded page file) k) rule)
              (z_fault n (euro_sum (forwarded page file) n) (slot_at (forwarded page file) k) rule))
              ≡ cond a (q_fault page (slot_at file 0) rule)
              (cond b (t_fault page transfer cheque (key_of (slot_at file 1)) (slot_at file k) rule) (z_fault n (euro_sum file n) (slot_at file k) rule))
          go true b p q = q_as page _ _ q_alike rule
          go false true p q =
              ap (λ (l : List ℕ). t_fault page transfer cheque l (slot_at (forwarded page file) k) rule) key
              ∙ of_t (key_of (slot_at file 1)) (omega (arith, eqb-false k 0 p)) (leb-true k n q)
          go false false p q =
              ap₂ (λ (e : ℕ) (l : List ℕ). z_fault n e l rule) (euros_same n (omega arith)) (z_same k (leb-false k n q))

      content_same : content_of page (forwarded page file) n (euro_sum (forwarded page file) n) transfer cheque
          ≡ content_of page file n (euro_sum file n) transfer cheque
      unfolding content_of
      content_same =
          ap (λ (F : ℕ → ℕ → ℕ). first_broken F (rule_from n) (rule_end n) (n + 2)) (fun_ext (λ k. fun_ext (λ rule. rules_same k rule)))

      fit_same : verdict_by (Fits n) page (forwarded page file) transfer cheque ≡ verdict_by (Fits n) page file transfer cheque
      fit_same = ap₂ unless content_same (ap₂ (sound n) (euros_same n (omega arith)) (cents_same n (omega arith)))

-- the law
pub judged_alike : (page : ℕ) (file transfer cheque : List ℕ)
    → verdict_of page (forwarded page file) transfer cheque ≡ verdict_of page file transfer cheque
unfolding verdict_of
judged_alike page file transfer cheque =
    ap (λ (s : Shape). verdict_by s page (forwarded page file) transfer cheque) (structure_same page file) ∙ go (structure_of file) (tells file)
  where
    go : (s : Shape) → Tells file s → verdict_by s page (forwarded page file) transfer cheque ≡ verdict_by s page file transfer cheque
    go (Refused number rec) t = refl
    go (Fits n) t = fit_same page file n t.1 transfer cheque
