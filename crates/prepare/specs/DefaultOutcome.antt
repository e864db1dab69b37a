-- The promise of the default way, by what the code found: a refusal, which writes nothing, or success.
use Rattle.std.specs.Prelude.{ℕ, ◌+◌, ◌*◌, ◌≤◌, ◌≡◌, refl, Bool, true, false, List, eqb, ltb, length, Err}
use Rattle.std.proofs.Math.Path.{sym, ap₂}
use Rattle.std.proofs.Common.{ap, ◌∙◌, arith, ltb-false}
use Rattle.std.proofs.Math.Bool.{cond}
use Rattle.laws.specs.Choice.{on_eq, off_eq}
use Rattle.forwarding.specs.Forwarded.{forwarded, notes_of}
use Rattle.forwarding.specs.Put.{put}
use Rattle.judge.specs.ByRecords.{file_length}
use Rattle.structure.specs.Slots.{slot_at}
use Rattle.structure.specs.Shape.{Fits}
use Rattle.sorting.specs.Kept.{t_records, rule_in, kept_in, returned_in, named_in, kept_file}
use Rattle.sorting.specs.Sorted.{unsorted, goes_on, sort_of}
use Rattle.sorting.specs.Lists.{counts_add, named_count}
use Rattle.sorting.specs.Frame.{records_count, z_of, kept_lengths, kept_few}
use Rattle.sorting.proofs.Goes.{GoesOn, goes}
use Rattle.sorting.specs.declared.Sorted.{Sorted}
use Rattle.judge.specs.declared.Refusal.{Refusal}
use Rattle.sorting.specs.Answer.{sorted_of}
use Rattle.sending.specs.Whole.{CanSend, FileSent}
use Rattle.prepare.specs.Prepared.{not_prepared, done, send_of}
use Rattle.prepare.specs.Answer.{Short}
use Rattle.prepare.specs.Default.{or_refused, default_of, DefaultAs}

-- the room that a kept file lacks, by its figures: the refusals of the rooms in one number
abbrev pub room_missing : Sorted → ℕ → ℕ → ℕ → ℕ
room_missing sorted bytes places names =
    cond (ltb bytes (512 + 768 * sorted.payments.kept)) 60
    (cond (ltb places sorted.notes) 61 (cond (ltb names sorted.payments.returned) 63 0))

-- the kept file is as long as its figures say
kept_long : (page : ℕ) (file transfer cheque : List ℕ) (n : ℕ) → GoesOn page file transfer cheque n
    → length (kept_file page file transfer cheque) ≡ 512 + 768 * length (kept_in page file transfer cheque)
unfolding kept_file
kept_long page file transfer cheque n g =
    file_length (slot_at file 0) (kept_in page file transfer cheque) (z_of file n g.fits page transfer cheque) (kept_lengths file n g.fits page transfer cheque)

-- which they tell
rooms_told : (s : Sorted) (m : ℕ) (a b c : Bool)
    → cond (eqb (cond a (not_prepared 60 0) (cond b (not_prepared 61 0) (done m))).number 0) (cond c (unsorted 63 0) s)
    (unsorted (cond a (not_prepared 60 0) (cond b (not_prepared 61 0) (done m))).number (cond a (not_prepared 60 0) (cond b (not_prepared 61 0) (done m))).rec)
    ≡ cond (eqb (cond a 60 (cond b 61 (cond c 63 0))) 0) s (unsorted (cond a 60 (cond b 61 (cond c 63 0))) 0)
rooms_told s m true b c = refl
rooms_told s m false true c = refl
rooms_told s m false false true = refl
rooms_told s m false false false = refl

module _ (page : ℕ) (file transfer cheque out notes list : List ℕ) {s : Sorted} (e : s ≡ sort_of page file transfer cheque) where
  abbrev K : List ℕ
  K = kept_file page file transfer cheque

  -- a refusal leaves all that was lent as it was
  refuses : {r : Sorted} → (r.number ≡ 0 → ⊥) → r ≡ default_of page file transfer cheque out notes list
      → DefaultAs page file transfer cheque out notes list r out notes list
  refuses f q = record { answer_is = q; out_is = off_eq _ f refl; notes_are = off_eq _ f refl; list_is = off_eq _ f refl }

  pub default_refused : (s.number ≡ 0 → ⊥) → DefaultAs page file transfer cheque out notes list s out notes list
  unfolding default_of
  default_refused f = refuses f (off_eq _ (λ z. f (ap (λ (s : Sorted). s.number) e ∙ z)) e)

  module _ (z : s.number ≡ 0) where
    on : (n : ℕ) × GoesOn page file transfer cheque n
    on = goes page file transfer cheque (sym (ap (λ (s : Sorted). s.number) e) ∙ z)

    abbrev n : ℕ
    n = on.0

    abbrev g : GoesOn page file transfer cheque n
    g = on.1

    is : s ≡ goes_on page file transfer cheque
    is = e ∙ g.answer

    kept_is : s.payments.kept ≡ length (kept_in page file transfer cheque)
    kept_is = ap (λ (s : Sorted). s.payments.kept) is

    returned_is : s.payments.returned ≡ length (returned_in page file transfer cheque)
    returned_is = ap (λ (s : Sorted). s.payments.returned) is

    notes_is : s.notes ≡ length (notes_of page K)
    notes_is = ap (λ (s : Sorted). s.notes) is

    pub few : s.payments.kept ≤ 9999
    few = omega (arith, kept_is, kept_few file n g.fits page transfer cheque)

    long : length K ≡ 512 + 768 * s.payments.kept
    long = kept_long page file transfer cheque n g ∙ ap (λ (m : ℕ). 512 + 768 * m) (sym kept_is)

    by_rooms : default_of page file transfer cheque out notes list
        ≡ cond (eqb (room_missing s (length out) (length notes) (length list)) 0) s (unsorted (room_missing s (length out) (length notes) (length list)) 0)
    unfolding default_of send_of
    by_rooms =
        sym (on_eq _ (sym (ap (λ (s : Sorted). s.number) e) ∙ z) (ap (λ (s : Sorted). or_refused s (send_of page K out notes) list) e))
        ∙ ap₂ (λ (a b : Bool).
        cond (eqb (cond a (not_prepared 60 0) (cond b (not_prepared 61 0) (done (length (notes_of page K))))).number 0) (cond (ltb (length list) s.payments.returned) (unsorted 63 0) s)
        (unsorted (cond a (not_prepared 60 0) (cond b (not_prepared 61 0) (done (length (notes_of page K))))).number (cond a (not_prepared 60 0) (cond b (not_prepared 61 0) (done (length (notes_of page K))))).rec))
        (ap (ltb (length out)) long) (ap (ltb (length notes)) (sym notes_is))
        ∙ rooms_told s (length (notes_of page K)) (ltb (length out) (512 + 768 * s.payments.kept)) (ltb (length notes) s.notes) (ltb (length list) s.payments.returned)

    pub default_short : {why : Refusal} → Short why (room_missing s (length out) (length notes) (length list))
        → DefaultAs page file transfer cheque out notes list (sorted_of (Err why)) out notes list
    default_short {why} h =
        refuses (λ y. h.real (sym h.number_is ∙ y))
        (off_eq s h.real (ap₂ unsorted h.number_is h.no_record) ∙ sym by_rooms)

    module _ (room : room_missing s (length out) (length notes) (length list) ≡ 0) where
      answered : s ≡ default_of page file transfer cheque out notes list
      answered = on_eq (unsorted (room_missing s (length out) (length notes) (length list)) 0) room refl ∙ sym by_rooms

      all_there : (length K ≤ length out) × (length (notes_of page K) ≤ length notes) × (length (named_in page file transfer cheque) ≤ length list)
      all_there =
          let w = go (ltb (length out) (512 + 768 * s.payments.kept)) (ltb (length notes) s.notes) (ltb (length list) s.payments.returned) refl refl refl room in
          (omega (arith, w.0, long), omega (arith, w.1, notes_is), omega (arith, w.2, returned_is, named_count (rule_in page file transfer cheque) 1 (t_records file)))
        where
          go : (a b c : Bool) → ltb (length out) (512 + 768 * s.payments.kept) ≡ a → ltb (length notes) s.notes ≡ b → ltb (length list) s.payments.returned ≡ c
              → ◌≡◌ {A = ℕ} (cond a 60 (cond b 61 (cond c 63 0))) 0
              → (512 + 768 * s.payments.kept ≤ length out) × (s.notes ≤ length notes) × (s.payments.returned ≤ length list)
          go true b c p q r k = absurd (omega arith)
          go false true c p q r k = absurd (omega arith)
          go false false true p q r k = absurd (omega arith)
          go false false false p q r k = (ltb-false _ _ p, ltb-false _ _ q, ltb-false _ _ r)

      writes : {out' notes' list' : List ℕ} → out' ≡ put 0 (forwarded page K) out → notes' ≡ put 0 (notes_of page K) notes
          → list' ≡ put 0 (named_in page file transfer cheque) list → DefaultAs page file transfer cheque out notes list s out' notes' list'
      writes p q r = record { answer_is = answered; out_is = on_eq _ z p; notes_are = on_eq _ z q; list_is = on_eq _ z r }

      pub can_send : CanSend page file (s.payments.kept + s.payments.returned) transfer cheque s.payments.kept s.euros.kept out notes list
      can_send =
          let all : s.payments.kept + s.payments.returned ≡ n = omega (arith, kept_is, returned_is, counts_add (rule_in page file transfer cheque) (t_records file), records_count file n g.fits) in
          record {
            fits = g.fits ∙ ap Fits (sym all);
            kept_is = kept_is;
            sum_is = ap (λ (s : Sorted). s.euros.kept) is;
            bytes = all_there.0;
            places = all_there.1;
            names = all_there.2;
          }

      pub default_sent : {out' notes' list' : List ℕ} → FileSent page file transfer cheque out notes list out' notes' list'
          → DefaultAs page file transfer cheque out notes list s out' notes' list'
      default_sent f = writes f.output f.noted f.listed
