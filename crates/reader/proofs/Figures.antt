-- What the first records of the joined bytes show: sums, the file's number, the key, the changes, and the first broken rule.
use Rattle.std.proofs.Common.{ℕ, zero, suc, ◌+◌, ◌*◌, ◌-◌, ◌≤◌, List, [], arith, ◌≡◌, length, drop, replicate, refl, sym, ap, ap₂, subst, ◌∙◌, take}
use Rattle.std.proofs.lemmas.Bool.Decides.{nat_tests}
use Rattle.laws.specs.Choice.{off_eq}
use Rattle.laws.specs.Scan.{run, from}
use Rattle.records.specs.Places.{record_at}
use Rattle.payments.specs.Rules.{key_of}
use Rattle.structure.specs.Slots.{slot_at, width_at, place_is, later_width}
use Rattle.structure.specs.Fits.{Fit}
use Rattle.judge.specs.First.{none, first_broken}
use Rattle.judge.specs.Content.{fault_of, rule_from, rule_end}
use Rattle.judge.specs.Sums.{euros, cents, euro_sum, cent_sum, file_number}
use Rattle.forwarding.specs.Between.{between}
use Rattle.forwarding.specs.Forwarded.{notes_of}
use Rattle.forwarding.specs.Text.{q_texts, t_texts}
use Rattle.forwarding.specs.Fields.{field_changes}
use Rattle.forwarding.specs.Sized.{Sized}
use Rattle.count.specs.Counting.{Counted, count_first, count_next, count_all}
use Rattle.tally.specs.declared.Tally.{Tally}
use Rattle.judge.specs.Run.{slot_fault}
use Rattle.tally.specs.Record.{breach_in, or_next}
use Rattle.tally.specs.Settle.{key_at}
use Rattle.tally.specs.SoFar.{breach_at, same_breach, so_far}
use Rattle.reader.specs.Cuts.{Cut, joined, completing, read_fault, read_content}
use Rattle.reader.proofs.Course.{tally_at, later_is, next_is}

module _ (page : ℕ) (cuts : List Cut) where
  abbrev file : List ℕ
  file = joined cuts

  pub euros_are : (n : ℕ) → (tally_at page cuts (suc n)).euros ≡ euro_sum file n
  unfolding tally_at euro_sum
  euros_are zero = refl
  euros_are (suc n) =
      ap (λ (s : Tally). s.euros) (later_is page cuts n) ∙ ap (λ (x : ℕ). x + euros (slot_at file (suc n))) (euros_are n)

  pub cents_are : (n : ℕ) → (tally_at page cuts (suc n)).cents ≡ cent_sum file n
  unfolding tally_at cent_sum
  cents_are zero = refl
  cents_are (suc n) =
      ap (λ (s : Tally). s.cents) (later_is page cuts n) ∙ ap (λ (x : ℕ). x + cents (slot_at file (suc n))) (cents_are n)

  pub number_is : (n : ℕ) → (tally_at page cuts (suc n)).number ≡ file_number (slot_at file 0)
  unfolding tally_at
  number_is zero = refl
  number_is (suc n) = ap (λ (s : Tally). s.number) (later_is page cuts n) ∙ number_is n

  -- record 1 brings the key, and no later one changes it
  key_is : (k : ℕ) → key_at (suc k) (tally_at page cuts (suc k)).key (slot_at file (suc k)) ≡ key_of (slot_at file 1)
  unfolding tally_at
  key_is zero = refl
  key_is (suc k) =
      sym (off_eq {y = (tally_at page cuts (suc (suc k))).key} (key_of (slot_at file (suc (suc k)))) (λ (q : suc (suc k) ≡ 1). omega arith) refl)
      ∙ ap (λ (s : Tally). s.key) (later_is page cuts k)
      ∙ ap (λ (j : ℕ). key_at j (tally_at page cuts (suc k)).key (slot_at file (suc k))) (next_is page cuts (suc k)) ∙ key_is k

  -- the changes, of a file that fits
  module _ (n : ℕ) (fit : Fit file n) where
    sized : Sized file
    sized = record { payments = n; long = fit.long; most = fit.most }

    q_between : slot_at file 0 ≡ between 0 256 file
    unfolding slot_at
    q_between = refl

    t_between : (j : ℕ) → slot_at file (suc j) ≡ between (256 + 768 * j) (256 + 768 * j + 768) file
    unfolding slot_at
    t_between j =
        let w : width_at (suc j) ≡ 256 + 768 * j + 768 - (256 + 768 * j) = later_width (suc j) (omega arith) ∙ omega arith in
        let a : record_at (suc j) ≡ 256 + 768 * j = place_is (suc j) ∙ omega arith in
        ap₂ (λ (x y : ℕ). take x (drop y file)) w a

    counts : (j : ℕ) → j ≤ n → Counted file (tally_at page cuts (suc j)).changes (256 + 768 * j)
    unfolding tally_at
    counts zero h = count_first sized (ap (λ (q : List ℕ). 0 + field_changes q_texts q) q_between ∙ omega arith)
    counts (suc j) h =
        let here = count_next sized (counts j (omega arith)) (omega (arith, fit.long)) (ap (field_changes t_texts) (t_between j)) in
        let a : 256 + 768 * j + 768 ≡ 256 + 768 * suc j = omega arith in
        let c : (tally_at page cuts (suc (suc j))).changes ≡ (tally_at page cuts (suc j)).changes + field_changes t_texts (slot_at file (suc j)) =
        ap (λ (s : Tally). s.changes) (later_is page cuts j) in
        subst (λ (x : ℕ). Counted file x (256 + 768 * suc j)) (sym c)
        (subst (Counted file ((tally_at page cuts (suc j)).changes + field_changes t_texts (slot_at file (suc j)))) a here)

  pub changes_are : (n : ℕ) → Fit file n → (tally_at page cuts (suc n)).changes ≡ length (notes_of page file)
  changes_are n fit = count_all (sized n fit) (counts n fit n (omega arith)) (omega (arith, fit.long)) page

  -- what a rule says of Q and of a T record does not depend on the file's other records, but for the key; what it says of Z
  -- depends on no list
  module _ (n e k rule : ℕ) (t ch : List ℕ) where
    of_record : (key : List ℕ) → k ≤ n → ((k ≡ 0 → ⊥) → key ≡ key_of (slot_at file 1))
        → slot_fault page t ch key k 0 (slot_at file k) k rule ≡ fault_of page file n e t ch k rule
    unfolding slot_fault fault_of
    of_record key h same = grind (arith, nat_tests)

    of_z : (key : List ℕ) → k ≡ n + 1 → slot_fault page [] [] key n e (slot_at file k) k rule ≡ fault_of page file n e t ch k rule
    unfolding slot_fault fault_of
    of_z key h = grind (arith, nat_tests)

  module _ (n e : ℕ) where
    abbrev F : ℕ → ℕ → ℕ
    F = read_fault page cuts n e

    same_from : (k : ℕ) → k ≤ n → rule_from k k ≡ rule_from n k
    same_from k h = grind (arith, nat_tests)

    same_end : (k : ℕ) → k ≤ n → rule_end k k ≡ rule_end n k
    same_end k h = grind (arith, nat_tests)

    breach_is : (k : ℕ) (key : List ℕ) → k ≤ n → ((k ≡ 0 → ⊥) → key ≡ key_of (slot_at file 1))
        → breach_in page (completing cuts k).transfer (completing cuts k).cheque key k 0 (slot_at file k) k ≡ breach_at F (rule_from n) (rule_end n) k
    unfolding breach_in
    breach_is k key h same =
        let t = (completing cuts k).transfer in
        let ch = (completing cuts k).cheque in
        same_breach (slot_fault page t ch key k 0 (slot_at file k)) F (rule_from k) (rule_end k) (rule_from n) (rule_end n) k
        (λ rule. of_record n e k rule t ch key h same) (same_from k h) (same_end k h)

    -- the first broken rule of the first k records
    broken_is : (k : ℕ) → k ≤ n + 1 → (tally_at page cuts k).broken ≡ first_broken F (rule_from n) (rule_end n) k
    unfolding tally_at run from
    broken_is zero h = refl
    broken_is (suc zero) h =
        ap (or_next none) (breach_is 0 (replicate 21 0) (omega arith) (λ q. absurd (q refl))) ∙ sym (so_far F (rule_from n) (rule_end n) 0)
    broken_is (suc (suc k)) h =
        let up : suc k + 1 ≡ suc (suc k) = omega arith in
        let s = tally_at page cuts (suc k) in
        ap (λ (x : Tally). x.broken) (later_is page cuts k)
        ∙ rw (next_is page cuts (suc k))
        (ap₂ or_next (broken_is (suc k) (omega arith))
        (breach_is (suc k) (key_at (suc k) s.key (slot_at file (suc k))) (omega arith) (λ q. key_is k)))
        ∙ sym (so_far F (rule_from n) (rule_end n) (suc k)) ∙ ap (first_broken F (rule_from n) (rule_end n)) up

    -- and of all of them, Z with its sums included
    pub content_is : (key : List ℕ)
        → or_next (tally_at page cuts (n + 1)).broken (breach_in page [] [] key n e (slot_at file (n + 1)) (n + 1)) ≡ read_content page cuts n e
    unfolding breach_in read_content
    content_is key =
        let up : n + 1 + 1 ≡ n + 2 = omega arith in
        ap₂ or_next (broken_is (n + 1) (omega arith))
        (same_breach (slot_fault page [] [] key n e (slot_at file (n + 1))) F (rule_from n) (rule_end n) (rule_from n) (rule_end n) (n + 1)
        (λ rule. of_z n e (n + 1) rule (completing cuts (n + 1)).transfer (completing cuts (n + 1)).cheque key refl) refl refl)
        ∙ sym (so_far F (rule_from n) (rule_end n) (n + 1)) ∙ ap (first_broken F (rule_from n) (rule_end n)) up
