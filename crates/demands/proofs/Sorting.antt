-- What the default way of prepare leaves and answers, by what sorting means (sorting/specs/Goes).
use Prim.Native.Nat.{ℕ, zero, suc, ◌+◌, ◌%◌, ◌/◌, ◌≤◌, ◌<◌}
use mathlib.Core.Path.{◌≡◌, refl, sym, ap, ap₂, subst, ◌∙◌}
use mathlib.Core.Bool.{Bool, true, false, cond}
use mathlib.Core.List.{List, [], ◌∷◌, ◌++◌}
use mathlib.Core.Logic.{◌⊎◌, inl, inr}
use native.Mathlib.Omega.{arith}
use borrow.Author.Tests.{eqb-true, eqb-false, ltb-false, ne_eqb, lt-leb}
use lib.Dec.{eqb, leb, ltb, lit<}
use lib.ListN.{length, take, drop, length-append}
use lib.Seq.{take_at}
use Rattle.laws.specs.Choice.{on, on_eq, off_eq, either}
use Rattle.laws.specs.Scan.{Means, means}
use Rattle.laws.specs.Sums.{sum_of}
use Rattle.charset.specs.Table.{is_page}
use Rattle.records.specs.Places.{record_at}
use Rattle.structure.specs.Slots.{width_at, slot_at}
use Rattle.structure.specs.Walk.{structure_of}
use Rattle.structure.specs.Fits.{Tells, tells}
use Rattle.structure.specs.Shape.{Shape, Fits, Refused}
use Rattle.judge.specs.First.{breaks, first_rule}
use Rattle.judge.specs.Content.{fault_of, rule_from, rule_end}
use Rattle.judge.specs.Sums.{euros, euro_sum}
use Rattle.judge.specs.Records.{joined, file_of}
use Rattle.judge.specs.Apart.{slots_from}
use Rattle.judge.specs.Verdict.{verdict_of}
use Rattle.forwarding.specs.Forwarded.{forwarded, notes_of}
use Rattle.forwarding.specs.Put.{put}
use Rattle.forwarding.specs.RoundTrip.{Bytes}
use Rattle.sorting.specs.Kept.{kept, digits, fresh_z, records_by, t_records, rule_in, kept_in, named_in, kept_file}
use Rattle.sorting.specs.Sorted.{unsorted, goes_on, no_amount, rule_at, behind_q, sort_by, sort_of}
use Rattle.sorting.specs.Lists.{named_count, counts_add, sums_add}
use Rattle.sorting.specs.Frame.{fit, lengths, file_is, z_of, kept_lengths}
use Rattle.sorting.proofs.WholeFile.{z_slot}
use Rattle.sorting.proofs.Goes.{GoesOn, goes, z_is_right, kept_sound}
use Rattle.sorting.specs.declared.Sorted.{Sorted}
use Rattle.prepare.specs.Prepared.{not_prepared, done, send_of, prepare_of, PreparedAs}
use Rattle.prepare.specs.Default.{default_by, default_of, left_by, DefaultAs}
use Rattle.restore.specs.Origin.{prepared_origin}
use Rattle.demands.specs.Sorting.{RefusingRule, Names, Figures, SentOn, SendsTheGoodOnes, DefaultForwards, DefaultYields, DefaultTurnsBack, DefaultNumbers, DefaultKeeps, DefaultPage, DefaultSettled}
use Rattle.demands.proofs.Pages.{page_is_there, no_page}
use Rattle.demands.proofs.Turns.{told_first, walk_range}
use Rattle.demands.proofs.Demand2.{judged}
use Rattle.demands.proofs.Demand3.{turns_back}
use Rattle.demands.proofs.Forwarding.{behind, forwards}
use Rattle.demands.proofs.Named.{names}
use Rattle.demands.proofs.Rooms.{in_rooms, by_rooms}

-- a file that is sent where there is room for it and its notes
sent_in_full : (page : ℕ) (file out notes : List ℕ) → ltb (length out) (length file) ≡ false → ltb (length notes) (length (notes_of page file)) ≡ false
    → send_of page file out notes ≡ done (length (notes_of page file))
unfolding send_of
sent_in_full page file out notes q r =
    ap₂ (λ (a b : Bool). cond a (not_prepared 60 0) (cond b (not_prepared 61 0) (done (length (notes_of page file))))) q r

-- the default way answers 0
module _ (page : ℕ) (file transfer cheque out notes list : List ℕ) where
  abbrev K : List ℕ
  K = kept_file page file transfer cheque

  pub record Success : Type 0 where
    pub sorted : (sort_of page file transfer cheque).number ≡ 0
    pub sent : send_of page K out notes ≡ done (length (notes_of page K))
    pub room : (sort_of page file transfer cheque).payments.returned ≤ length list
    pub is : default_of page file transfer cheque out notes list ≡ sort_of page file transfer cheque

  pub succeeds : (default_of page file transfer cheque out notes list).number ≡ 0 → Success
  succeeds z =
      go (eqb (sort_of page file transfer cheque).number 0) (ltb (length out) (length K)) (ltb (length notes) (length (notes_of page K)))
      (ltb (length list) (sort_of page file transfer cheque).payments.returned) refl refl refl refl (by_rooms page file transfer cheque out notes list) z
    where
      go : (a b c d : Bool) → eqb (sort_of page file transfer cheque).number 0 ≡ a → ltb (length out) (length K) ≡ b
          → ltb (length notes) (length (notes_of page K)) ≡ c → ltb (length list) (sort_of page file transfer cheque).payments.returned ≡ d
          → default_of page file transfer cheque out notes list ≡ cond a (in_rooms b c d (sort_of page file transfer cheque)) (sort_of page file transfer cheque)
          → (default_of page file transfer cheque out notes list).number ≡ 0 → Success
      go false b c d p q r t is z = absurd (eqb-false _ 0 p (sym (ap (λ (s : Sorted). s.number) is) ∙ z))
      go true true c d p q r t is z = absurd (omega (arith, ap (λ (s : Sorted). s.number) is))
      go true false true d p q r t is z = absurd (omega (arith, ap (λ (s : Sorted). s.number) is))
      go true false false true p q r t is z = absurd (omega (arith, ap (λ (s : Sorted). s.number) is))
      go true false false false p q r t is z =
          record {
            sorted = eqb-true _ 0 p;
            sent = sent_in_full page K out notes q r;
            room = ltb-false _ _ t;
            is = is;
          }

-- what was put in front
front : (xs ys : List ℕ) (n : ℕ) → length xs ≡ n → take n (put 0 xs ys) ≡ xs
front xs ys n e = take_at xs (drop (0 + length xs) ys) n e

module _ (page : ℕ) (file transfer cheque out notes list out' notes' list' : List ℕ) (answer : Sorted)
    (promise : DefaultAs page file transfer cheque out notes list answer out' notes' list') (z : answer.number ≡ 0) where
  w : Success page file transfer cheque out notes list
  w = succeeds page file transfer cheque out notes list (sym (ap (λ (s : Sorted). s.number) promise.answer_is) ∙ z)

  on_it : (n : ℕ) × GoesOn page file transfer cheque n
  on_it = goes page file transfer cheque w.sorted

  abbrev n : ℕ
  n = on_it.0

  abbrev g : GoesOn page file transfer cheque n
  g = on_it.1

  answer_is : answer ≡ goes_on page file transfer cheque
  answer_is = promise.answer_is ∙ w.is ∙ g.answer

  pub as_strict_does : PreparedAs page (kept_file page file transfer cheque) transfer cheque out notes (done answer.notes) out' notes'
  unfolding prepare_of
  as_strict_does =
      let noted : answer.notes ≡ length (notes_of page (kept_file page file transfer cheque)) = ap (λ (s : Sorted). s.notes) answer_is in
      record {
        answer_is =
            on (not_prepared 7 0) g.page_is
            (on_eq (not_prepared (verdict_of page (kept_file page file transfer cheque) transfer cheque).number (verdict_of page (kept_file page file transfer cheque) transfer cheque).rec)
            (kept_sound page file transfer cheque n g) (ap done noted ∙ sym w.sent));
        out_is = promise.out_is ∙ sym (on_eq out z refl);
        notes_are = promise.notes_are ∙ sym (on_eq notes z refl);
      }

  returned_is : length (named_in page file transfer cheque) ≡ answer.payments.returned
  returned_is = named_count (rule_in page file transfer cheque) 1 (t_records file) ∙ sym (ap (λ (s : Sorted). s.payments.returned) answer_is)

  list_is : list' ≡ put 0 (named_in page file transfer cheque) list
  list_is = promise.list_is ∙ sym (on_eq list z refl)

  pub list_front : take answer.payments.returned list' ≡ named_in page file transfer cheque
  list_front =
      ap (take answer.payments.returned) list_is ∙ front (named_in page file transfer cheque) list answer.payments.returned returned_is

  figures : Figures file (kept_file page file transfer cheque) answer
  unfolding kept_file
  figures =
      record {
        q = slot_at file 0;
        ts = t_records file;
        z = z_slot file n g.fits;
        made = (lengths file n g.fits, file_is file n g.fits);
        ks = kept_in page file transfer cheque;
        fresh = z_of file n g.fits page transfer cheque;
        kept_made = (kept_lengths file n g.fits page transfer cheque, refl);
        kept_payments = ap (λ (s : Sorted). s.payments.kept) answer_is;
        kept_euros = ap (λ (s : Sorted). s.euros.kept) answer_is;
        payments_add =
            omega (arith, ap (λ (s : Sorted). s.payments.kept) answer_is, ap (λ (s : Sorted). s.payments.returned) answer_is, counts_add (rule_in page file transfer cheque) (t_records file), (z_is_right page file transfer cheque n g).counts);
        euros_add =
            omega (arith, ap (λ (s : Sorted). s.euros.kept) answer_is, ap (λ (s : Sorted). s.euros.returned) answer_is, sums_add (rule_in page file transfer cheque) euros (t_records file), (z_is_right page file transfer cheque n g).sums);
      }

  sent_on : SentOn page file transfer cheque out notes list out' notes' list' answer
  sent_on =
      record {
        sound = (judged page transfer cheque (kept_file page file transfer cheque)).sound.0 (kept_sound page file transfer cheque n g);
        as_strict_does = as_strict_does;
        payments = n;
        long = (fit file n g.fits).long;
        listed = omega (arith, returned_is, ap length list_is, length-append (named_in page file transfer cheque) (drop (0 + length (named_in page file transfer cheque)) list));
        names = subst (Names page file transfer cheque n) (sym list_front) (names page file transfer cheque n g.fits);
        list_rest = ap (drop answer.payments.returned) list_is ∙ behind (named_in page file transfer cheque) list answer.payments.returned returned_is;
        figures = figures;
      }

-- the kept file of bytes is of bytes
bytes_append : (a b : List ℕ) → Bytes a → Bytes b → Bytes (a ++ b)
bytes_append [] b p q k = q k
bytes_append (x ∷ a) b p q zero = p 0
bytes_append (x ∷ a) b p q (suc k) = bytes_append a b (λ j. p (suc j)) q k

bytes_none : Bytes []
bytes_none k = lit< tt

bytes_drop : (n : ℕ) (s : List ℕ) → Bytes s → Bytes (drop n s)
bytes_drop zero s p k = p k
bytes_drop (suc n) [] p k = lit< tt
bytes_drop (suc n) (x ∷ s) p k = bytes_drop n s (λ j. p (suc j)) k

bytes_take : (n : ℕ) (s : List ℕ) → Bytes s → Bytes (take n s)
bytes_take zero s p k = lit< tt
bytes_take (suc n) [] p k = lit< tt
bytes_take (suc n) (x ∷ s) p zero = p 0
bytes_take (suc n) (x ∷ s) p (suc k) = bytes_take n s (λ j. p (suc j)) k

bytes_put : (k : ℕ) (xs ys : List ℕ) → Bytes xs → Bytes ys → Bytes (put k xs ys)
bytes_put k xs ys p q = bytes_append (take k ys) (xs ++ drop (k + length xs) ys) (bytes_take k ys q) (bytes_append xs (drop (k + length xs) ys) p (bytes_drop (k + length xs) ys q))

bytes_digits : (w n : ℕ) → Bytes (digits w n)
bytes_digits zero n = bytes_none
bytes_digits (suc w) n = bytes_append (digits w (n / 10)) ((48 + n % 10) ∷ []) (bytes_digits w (n / 10)) one
  where
    one : Bytes ((48 + n % 10) ∷ [])
    one zero = omega arith
    one (suc k) = lit< tt

module _ (file : List ℕ) (bytes : Bytes file) where
  bytes_slot : (k : ℕ) → Bytes (slot_at file k)
  unfolding slot_at
  bytes_slot k = bytes_take (width_at k) (drop (record_at k) file) (bytes_drop (record_at k) file bytes)

  bytes_kept : (rule : List ℕ → ℕ) (k m : ℕ) → Bytes (joined (kept rule (slots_from file k m)))
  bytes_kept rule k zero = bytes_none
  bytes_kept rule k (suc m) =
      either (λ (ts : List (List ℕ)). Bytes (joined ts)) (eqb (rule (slot_at file k)) 0) (slot_at file k ∷ kept rule (slots_from file (suc k) m)) (kept rule (slots_from file (suc k) m))
      (bytes_append (slot_at file k) (joined (kept rule (slots_from file (suc k) m))) (bytes_slot k) (bytes_kept rule (suc k) m)) (bytes_kept rule (suc k) m)

  -- Q, kept records, and a Z with fresh figures
  bytes_by : (ts : List (List ℕ)) (z : List ℕ) (n e : ℕ) → Bytes (joined ts) → Bytes z → Bytes (file_of (slot_at file 0) ts (fresh_z z n e))
  unfolding fresh_z
  bytes_by ts z n e p q =
      let three : Bytes (put 5 (digits 15 e) z) = bytes_put 5 (digits 15 e) z (bytes_digits 15 e) q in
      let both : Bytes (put 20 (digits 15 n) (put 5 (digits 15 e) z)) = bytes_put 20 (digits 15 n) (put 5 (digits 15 e) z) (bytes_digits 15 n) three in
      bytes_append (slot_at file 0) (joined ts ++ put 20 (digits 15 n) (put 5 (digits 15 e) z)) (bytes_slot 0)
      (bytes_append (joined ts) (put 20 (digits 15 n) (put 5 (digits 15 e) z)) p both)

  bytes_records : (rule : List ℕ → ℕ) (s : Shape) → Bytes (joined (kept rule (records_by s file)))
  bytes_records rule (Fits n) = bytes_kept rule 1 n
  bytes_records rule (Refused number rec) = bytes_none

  bytes_in : (rule : List ℕ → ℕ) → Bytes (joined (kept rule (t_records file)))
  unfolding t_records
  bytes_in rule = bytes_records rule (structure_of file)

  kept_bytes : (page : ℕ) (transfer cheque : List ℕ) → Bytes (kept_file page file transfer cheque)
  unfolding kept_file
  kept_bytes page transfer cheque =
      bytes_by (kept_in page file transfer cheque) (slot_at file (length (t_records file) + 1)) (length (kept_in page file transfer cheque)) (sum_of euros (kept_in page file transfer cheque))
      (bytes_in (rule_in page file transfer cheque)) (bytes_slot (length (t_records file) + 1))

pub default_forwards : DefaultForwards
default_forwards page file transfer cheque out notes list out' notes' list' answer bytes promise z =
    forwards page (kept_file page file transfer cheque) transfer cheque out notes out' notes' (done answer.notes) (kept_bytes file bytes page transfer cheque)
    (as_strict_does page file transfer cheque out notes list out' notes' list' answer promise z) refl

pub default_yields : DefaultYields
default_yields page file transfer cheque out notes list out' notes' list' answer bytes promise z =
    prepared_origin page transfer cheque (kept_file page file transfer cheque) out notes out' notes' (done answer.notes)
    (as_strict_does page file transfer cheque out notes list out' notes' list' answer promise z) refl (kept_bytes file bytes page transfer cheque)

pub default_turns_back : DefaultTurnsBack
default_turns_back page file transfer cheque out notes list out' notes' list' room room' answer restored bytes promise z given l =
    turns_back page transfer cheque (kept_file page file transfer cheque) out notes out' notes' room room' (done answer.notes) restored (kept_bytes file bytes page transfer cheque)
    (as_strict_does page file transfer cheque out notes list out' notes' list' answer promise z) refl given l

pub sends_the_good_ones : SendsTheGoodOnes
sends_the_good_ones page file transfer cheque out notes list out' notes' list' answer promise z =
    sent_on page file transfer cheque out notes list out' notes' list' answer promise z

-- on a page that there is, an answer is 0, or a refusal with one of these numbers and zeros
abbrev Number : ℕ → Type 0
Number n = RefusingRule n ⊎ ((n ≡ 43) ⊎ ((n ≡ 60) ⊎ ((n ≡ 61) ⊎ (n ≡ 63))))

abbrev PlainBy : (ℕ → Type 0) → Sorted → Type 0
PlainBy N s = (s.number ≡ 0) ⊎ (N s.number × (s ≡ unsorted s.number s.rec))

abbrev Plain : Sorted → Type 0
Plain s = PlainBy Number s

-- of sorting, fewer
abbrev pub PlainSort : Sorted → Type 0
PlainSort s = PlainBy (λ (n : ℕ). RefusingRule n ⊎ (n ≡ 43)) s

wider : (s : Sorted) → PlainSort s → Plain s
wider s (inl z) = inl z
wider s (inr (inl r, q)) = inr (inl r, q)
wider s (inr (inr e, q)) = inr (inr (inl e), q)

rule_range : (F : ℕ → ℕ → ℕ) (lo hi : ℕ → ℕ) (k : ℕ) → (first_rule F lo hi k ≡ 0) ⊎ ((lo k ≤ first_rule F lo hi k) × (first_rule F lo hi k < hi k))
rule_range F lo hi k = go (first_rule F lo hi k) (means (breaks F k) (λ (r : ℕ). r) 0 (lo k) (hi k))
  where
    go : (v : ℕ) → Means (breaks F k) (λ (r : ℕ). r) 0 (lo k) (hi k) v → (v ≡ 0) ⊎ ((lo k ≤ v) × (v < hi k))
    go v (inl p) = inl p.0
    go v (inr p) = inr (omega (arith, p.answer, p.above), omega (arith, p.answer, p.below))

-- the walk refuses with 1 to 5
walk_number : (file : List ℕ) (m k : ℕ) → Tells file (Refused m k) → (1 ≤ m) × (m ≤ 5)
walk_number file m k (inl t) = (omega (arith, t.1), omega (arith, t.1))
walk_number file m k (inr t) =
    let f = told_first k (slot_at file k) m t.1.broken t.1.real in
    let r = walk_range k (slot_at file k) f.turn m f.there in
    (omega (arith, r.0), r.1)

module _ (page : ℕ) (file transfer cheque : List ℕ) where
  q_number : (n v : ℕ) → (v ≡ 0) ⊎ ((10 ≤ v) × (v < 17)) → PlainSort (unsorted v 0)
  q_number n v (inl e) = inl e
  q_number n v (inr p) = inr (inl (inr (inl (p.0, omega (arith, p.1)))), refl)

  z_number : (k v : ℕ) → (v ≡ 0) ⊎ ((40 ≤ v) × (v < 43)) → PlainSort (unsorted v k)
  z_number k v (inl e) = inl e
  z_number k v (inr p) = inr (inl (inr (inr (inr (p.0, omega (arith, p.1))))), refl)

  z_range : (n : ℕ) → (rule_at page file n transfer cheque (n + 1) ≡ 0) ⊎ ((40 ≤ rule_at page file n transfer cheque (n + 1)) × (rule_at page file n transfer cheque (n + 1) < 43))
  z_range n =
      let later : eqb (n + 1) 0 ≡ false = ne_eqb (n + 1) 0 (λ (e : n + 1 ≡ 0). omega arith) in
      let past : leb (n + 1) n ≡ false = lt-leb (n + 1) n (omega arith) in
      go later past (rule_range (fault_of page file n (euro_sum file n) transfer cheque) (rule_from n) (rule_end n) (n + 1))
    where
      go : {v : ℕ} → eqb (n + 1) 0 ≡ false → leb (n + 1) n ≡ false → (v ≡ 0) ⊎ ((rule_from n (n + 1) ≤ v) × (v < rule_end n (n + 1))) → (v ≡ 0) ⊎ ((40 ≤ v) × (v < 43))
      go p q (inl e) = inl e
      go p q (inr w) = inr (rw (p, q) at w.0, rw (p, q) at w.1)

  behind_plain : (n : ℕ) → PlainSort (behind_q page file n transfer cheque)
  unfolding behind_q
  behind_plain n =
      either PlainSort (eqb (no_amount file n) 0) _ (unsorted 33 (no_amount file n))
      (either PlainSort (eqb (rule_at page file n transfer cheque (n + 1)) 0) _ (unsorted (rule_at page file n transfer cheque (n + 1)) (n + 1))
      (either PlainSort (eqb (length (kept_in page file transfer cheque)) 0) (unsorted 43 0) (goes_on page file transfer cheque) (inr (inr refl, refl)) (inl refl))
      (z_number (n + 1) (rule_at page file n transfer cheque (n + 1)) (z_range n)))
      (inr (inl (inr (inr (inl refl))), refl))

  pub sort_plain : is_page page ≡ true → PlainSort (sort_of page file transfer cheque)
  unfolding sort_of
  sort_plain there = subst PlainSort (on (unsorted 7 0) there refl) (shape (structure_of file) refl)
    where
      shape : (s : Shape) → structure_of file ≡ s → PlainSort (sort_by s page file transfer cheque)
      shape (Fits n) e =
          either PlainSort (eqb (rule_at page file n transfer cheque 0) 0) (behind_q page file n transfer cheque) (unsorted (rule_at page file n transfer cheque 0) 0) (behind_plain n)
          (q_number n (rule_at page file n transfer cheque 0) (rule_range (fault_of page file n (euro_sum file n) transfer cheque) (rule_from n) (rule_end n) 0))
      shape (Refused number rec) e = inr (inl (inl (walk_number file number rec (rw e at (tells file)))), refl)

  module _ (out notes list : List ℕ) where
    default_plain : is_page page ≡ true → Plain (default_of page file transfer cheque out notes list)
    default_plain there =
        let s = sort_of page file transfer cheque in
        let k = kept_file page file transfer cheque in
        subst Plain (sym (by_rooms page file transfer cheque out notes list))
        (either Plain (eqb s.number 0) _ s
        (rooms (ltb (length out) (length k)) (ltb (length notes) (length (notes_of page k))) (ltb (length list) s.payments.returned) (wider s (sort_plain there))) (wider s (sort_plain there)))
      where
        rooms : (a b c : Bool) → Plain (sort_of page file transfer cheque) → Plain (in_rooms a b c (sort_of page file transfer cheque))
        rooms true b c p = inr (inr (inr (inl refl)), refl)
        rooms false true c p = inr (inr (inr (inr (inl refl))), refl)
        rooms false false true p = inr (inr (inr (inr (inr refl))), refl)
        rooms false false false p = p

    default_7 : is_page page ≡ false → default_of page file transfer cheque out notes list ≡ unsorted 7 0
    unfolding default_of sort_of
    default_7 there =
        ap (λ (t : Bool). default_by (cond t (sort_by (structure_of file) page file transfer cheque) (unsorted 7 0)) page (kept_file page file transfer cheque) out notes list) there

-- what is answered on a page that there is, and on every other number
module _ (page : ℕ) (file transfer cheque out notes list out' notes' list' : List ℕ) (answer : Sorted)
    (promise : DefaultAs page file transfer cheque out notes list answer out' notes' list') where
  on_page : is_page page ≡ true → Plain answer
  on_page there = subst Plain (sym promise.answer_is) (default_plain page file transfer cheque out notes list there)

  off_page : is_page page ≡ false → answer ≡ unsorted 7 0
  off_page there = promise.answer_is ∙ default_7 page file transfer cheque out notes list there

  all_kept : (answer.number ≡ 0 → ⊥) → (out' ≡ out) × (notes' ≡ notes) × (list' ≡ list)
  all_kept f = (promise.out_is ∙ sym (off_eq _ f refl), promise.notes_are ∙ sym (off_eq _ f refl), promise.list_is ∙ sym (off_eq _ f refl))

  zeros : (answer.number ≡ 0 → ⊥) → answer ≡ unsorted answer.number answer.rec
  zeros f = go (is_page page) refl
    where
      plain : Plain answer → answer ≡ unsorted answer.number answer.rec
      plain (inl z) = absurd (f z)
      plain (inr p) = p.1

      go : (t : Bool) → is_page page ≡ t → answer ≡ unsorted answer.number answer.rec
      go true t = plain (on_page t)
      go false t = off_page t ∙ sym (ap (λ (s : Sorted). unsorted s.number s.rec) (off_page t))

  number_7 : Plain answer → answer.number ≡ 7 → ⊥
  number_7 (inl z) e = omega (arith, z, e)
  number_7 (inr (inl (inl r), q)) e = omega (arith, r.1, e)
  number_7 (inr (inl (inr (inl r)), q)) e = omega (arith, r.0, e)
  number_7 (inr (inl (inr (inr (inl r))), q)) e = omega (arith, r, e)
  number_7 (inr (inl (inr (inr (inr r))), q)) e = omega (arith, r.0, e)
  number_7 (inr (inr (inl r), q)) e = omega (arith, r, e)
  number_7 (inr (inr (inr (inl r)), q)) e = omega (arith, r, e)
  number_7 (inr (inr (inr (inr (inl r))), q)) e = omega (arith, r, e)
  number_7 (inr (inr (inr (inr (inr r))), q)) e = omega (arith, r, e)

  numbers : (answer.number ≡ 0) ⊎ (RefusingRule answer.number ⊎ ((answer.number ≡ 7) ⊎ ((answer.number ≡ 43) ⊎ ((answer.number ≡ 60) ⊎ ((answer.number ≡ 61) ⊎ (answer.number ≡ 63))))))
  numbers = go (is_page page) refl
    where
      plain : Plain answer → (answer.number ≡ 0) ⊎ (RefusingRule answer.number ⊎ ((answer.number ≡ 7) ⊎ ((answer.number ≡ 43) ⊎ ((answer.number ≡ 60) ⊎ ((answer.number ≡ 61) ⊎ (answer.number ≡ 63))))))
      plain (inl z) = inl z
      plain (inr (inl r, q)) = inr (inl r)
      plain (inr (inr r, q)) = inr (inr (inr r))

      go : (t : Bool) → is_page page ≡ t → (answer.number ≡ 0) ⊎ (RefusingRule answer.number ⊎ ((answer.number ≡ 7) ⊎ ((answer.number ≡ 43) ⊎ ((answer.number ≡ 60) ⊎ ((answer.number ≡ 61) ⊎ (answer.number ≡ 63))))))
      go true t = plain (on_page t)
      go false t = inr (inr (inl (ap (λ (s : Sorted). s.number) (off_page t))))

pub default_keeps : DefaultKeeps
default_keeps page file transfer cheque out notes list out' notes' list' answer promise f =
    let k = all_kept page file transfer cheque out notes list out' notes' list' answer promise f in
    (k.0, k.1, k.2, zeros page file transfer cheque out notes list out' notes' list' answer promise f)

pub default_numbers : DefaultNumbers
default_numbers page file transfer cheque out notes list out' notes' list' answer promise =
    numbers page file transfer cheque out notes list out' notes' list' answer promise

pub default_page : DefaultPage
default_page page file transfer cheque out notes list out' notes' list' answer promise = (
  λ p. number_7 page file transfer cheque out notes list out' notes' list' answer promise
      (on_page page file transfer cheque out notes list out' notes' list' answer promise (page_is_there page p)),
  λ n.
      let is = off_page page file transfer cheque out notes list out' notes' list' answer promise (no_page page n) in
      let k = all_kept page file transfer cheque out notes list out' notes' list' answer promise (λ z. omega (arith, z, ap (λ (s : Sorted). s.number) is)) in
      (is, k.0, k.1, k.2),
)

pub default_settled : DefaultSettled
default_settled page file transfer cheque out notes list =
    record {
      some =
          let answer = default_of page file transfer cheque out notes list in
          let kept = kept_file page file transfer cheque in
          ((answer, left_by answer (forwarded page kept) out, left_by answer (notes_of page kept) notes, left_by answer (named_in page file transfer cheque) list), record { answer_is = refl; out_is = refl; notes_are = refl; list_is = refl });
      coincide =
          λ x y p q.
          let kept = kept_file page file transfer cheque in
          let same : x.0 ≡ y.0 = p.answer_is ∙ sym q.answer_is in
          let outs = p.out_is ∙ ap (λ (r : Sorted). left_by r (forwarded page kept) out) same ∙ sym q.out_is in
          let places = p.notes_are ∙ ap (λ (r : Sorted). left_by r (notes_of page kept) notes) same ∙ sym q.notes_are in
          let lists = p.list_is ∙ ap (λ (r : Sorted). left_by r (named_in page file transfer cheque) list) same ∙ sym q.list_is in
          λ i. (same i, outs i, places i, lists i);
    }
