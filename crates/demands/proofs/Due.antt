-- What the default way answers is due, and what is due it answers: number and record, in A5's order.
use Prim.Native.Nat.{ℕ, zero, suc, ◌+◌, ◌-◌, ◌≤◌, ◌<◌}
use mathlib.Core.Path.{◌≡◌, refl, sym, ap, ap₂, subst, ◌∙◌}
use mathlib.Core.Bool.{Bool, true, false, not, cond, false≢true}
use mathlib.Core.List.{List, [], ◌∷◌}
use mathlib.Core.Logic.{inl, inr}
use native.Mathlib.Omega.{arith}
use borrow.Author.Tests.{eqb-true, eqb-false, ne_eqb, lt-leb, not-true, not-false, ltb-true, ltb-false, lt-ltb, le-ltb}
use lib.Dec.{eqb, leb, ltb}
use lib.ListN.{length, get_or}
use Rattle.laws.specs.Choice.{on, on_eq, off_eq}
use Rattle.laws.specs.Scan.{first, Means, means}
use Rattle.charset.specs.Table.{is_page}
use Rattle.rules.specs.Faults.{q_fault, z_fault}
use Rattle.structure.specs.Slots.{slot_at}
use Rattle.structure.specs.Walk.{structure_of}
use Rattle.structure.specs.Fits.{Tells, tells}
use Rattle.structure.specs.Shape.{Shape, Fits, Refused}
use Rattle.judge.specs.First.{breaks}
use Rattle.judge.specs.Content.{fault_of}
use Rattle.judge.specs.ByKind.{of_q, of_z}
use Rattle.judge.specs.Sums.{euro_sum}
use Rattle.forwarding.specs.Forwarded.{notes_of}
use Rattle.sorting.specs.Kept.{kept, t_records, rule_in, kept_in, named_in, kept_file}
use Rattle.sorting.specs.Sorted.{unsorted, goes_on, in_digits, no_amount, rule_at, behind_q, sort_by, sort_of}
use Rattle.sorting.specs.Lists.{front_kept, named_count, kept_from}
use Rattle.sorting.specs.Frame.{records_count}
use Rattle.sorting.proofs.WholeFile.{slot_is}
use Rattle.sorting.proofs.Outcome.{finds_none}
use Rattle.sorting.specs.declared.Sorted.{Sorted}
use Rattle.prepare.specs.Default.{default_by, default_of}
use Rattle.demands.specs.Sorting.{BrokenFirst, NoneOf, BreaksNone, q_says, z_says, FirstSpoiled, AllDigits, Proper, Sorts, Goes, DueAnswer, DefaultRefuses}
use Rattle.demands.proofs.Alone.{one_number}
use Rattle.demands.proofs.Pages.{page_is_there}
use Rattle.demands.proofs.Rooms.{in_rooms, rooms_of}
use Rattle.demands.proofs.Named.{found_first, first_found, none_found, found_none, breaks_none, is_none}

module _ (page : ℕ) (file transfer cheque : List ℕ) (n : ℕ) where
  abbrev F : ℕ → ℕ → ℕ
  F k rule = fault_of page file n (euro_sum file n) transfer cheque k rule

  -- rules of Q
  q_alike : (r : ℕ) → 10 ≤ r → r ≤ 16 → q_says page file transfer cheque r ≡ F 0 r
  q_alike r a b = of_q page file n (euro_sum file n) transfer cheque 0 r (q_fault page (slot_at file 0) r) refl refl refl

  q_first : (v : ℕ) → v ≡ rule_at page file n transfer cheque 0 → (v ≡ 0 → ⊥) → BrokenFirst (q_says page file transfer cheque) 10 16 v
  q_first v e f = found_first (F 0) (q_says page file transfer cheque) 10 16 q_alike (omega arith) v e f

  q_is : (v : ℕ) → BrokenFirst (q_says page file transfer cheque) 10 16 v → rule_at page file n transfer cheque 0 ≡ v
  q_is v b = first_found (F 0) (q_says page file transfer cheque) 10 16 q_alike (omega arith) v b

  q_none : rule_at page file n transfer cheque 0 ≡ 0 → NoneOf (q_says page file transfer cheque) 10 16
  q_none e = found_none (F 0) (q_says page file transfer cheque) 10 16 q_alike (omega arith) e

  none_q : NoneOf (q_says page file transfer cheque) 10 16 → rule_at page file n transfer cheque 0 ≡ 0
  none_q h = none_found (F 0) (q_says page file transfer cheque) 10 16 q_alike (omega arith) h

  -- rules of Z
  z_alike : (r : ℕ) → 40 ≤ r → r ≤ 42 → z_says page file transfer cheque n r ≡ F (n + 1) r
  z_alike r a b =
      of_z page file n (euro_sum file n) transfer cheque (n + 1) r (z_fault n (euro_sum file n) (slot_at file (n + 1)) r) (λ (e : n + 1 ≡ 0). omega arith) (omega arith) refl refl

  z_search : rule_at page file n transfer cheque (n + 1) ≡ first (breaks F (n + 1)) (λ (r : ℕ). r) 0 40 43
  z_search =
      let later : eqb (n + 1) 0 ≡ false = ne_eqb (n + 1) 0 (λ (e : n + 1 ≡ 0). omega arith) in
      let past : leb (n + 1) n ≡ false = lt-leb (n + 1) n (omega arith) in
      ap₂ (λ (a b : Bool). first (breaks F (n + 1)) (λ (r : ℕ). r) 0 (cond a 10 (cond b 20 40)) (cond a 17 (cond b 36 43))) later past

  z_first : (v : ℕ) → v ≡ rule_at page file n transfer cheque (n + 1) → (v ≡ 0 → ⊥) → BrokenFirst (z_says page file transfer cheque n) 40 42 v
  z_first v e f = found_first (F (n + 1)) (z_says page file transfer cheque n) 40 42 z_alike (omega arith) v (e ∙ z_search) f

  z_is : (v : ℕ) → BrokenFirst (z_says page file transfer cheque n) 40 42 v → rule_at page file n transfer cheque (n + 1) ≡ v
  z_is v b = z_search ∙ first_found (F (n + 1)) (z_says page file transfer cheque n) 40 42 z_alike (omega arith) v b

  z_none : rule_at page file n transfer cheque (n + 1) ≡ 0 → NoneOf (z_says page file transfer cheque n) 40 42
  z_none e = found_none (F (n + 1)) (z_says page file transfer cheque n) 40 42 z_alike (omega arith) (sym z_search ∙ e)

  none_z : NoneOf (z_says page file transfer cheque n) 40 42 → rule_at page file n transfer cheque (n + 1) ≡ 0
  none_z h = z_search ∙ none_found (F (n + 1)) (z_says page file transfer cheque n) 40 42 z_alike (omega arith) h

  -- amounts
  abbrev bad : ℕ → Bool
  bad k = not (in_digits (slot_at file k))

  amount_first : (v : ℕ) → v ≡ no_amount file n → (v ≡ 0 → ⊥) → FirstSpoiled page file transfer cheque n v
  unfolding no_amount
  amount_first v e f = by v f (subst (Means bad (λ (k : ℕ). k) 0 1 (n + 1)) (sym e) (means bad (λ (k : ℕ). k) 0 1 (n + 1)))
    where
      by : (v : ℕ) → (v ≡ 0 → ⊥) → Means bad (λ (k : ℕ). k) 0 1 (n + 1) v → FirstSpoiled page file transfer cheque n v
      by v f (inl p) = absurd (f p.0)
      by v f (inr p) =
          record {
            low = omega (arith, p.answer, p.above);
            high = omega (arith, p.answer, p.below);
            spoiled = λ t. false≢true (sym (not-true _ p.holds) ∙ ap (λ (k : ℕ). in_digits (slot_at file k)) (sym p.answer) ∙ t);
            none_before = λ j a b. not-false _ (p.before j a (omega (arith, p.answer)));
          }

  amount_is : (v : ℕ) → FirstSpoiled page file transfer cheque n v → no_amount file n ≡ v
  unfolding no_amount
  amount_is v s = by (no_amount file n) (means bad (λ (k : ℕ). k) 0 1 (n + 1))
    where
      is_bad : bad v ≡ true
      is_bad = go (in_digits (slot_at file v)) s.spoiled
        where
          go : (t : Bool) → (t ≡ true → ⊥) → not t ≡ true
          go true h = absurd (h refl)
          go false h = refl

      by : (w : ℕ) → Means bad (λ (k : ℕ). k) 0 1 (n + 1) w → w ≡ v
      by w (inl p) = absurd (false≢true (sym (p.1 v s.low (omega (arith, s.high))) ∙ is_bad))
      by w (inr p) =
          p.answer
          ∙ one_number p.place v (λ l. false≢true (sym (not-true _ p.holds) ∙ s.none_before p.place p.above l))
          (λ l. false≢true (sym (p.before v s.low l) ∙ is_bad))

  pub amounts_none : no_amount file n ≡ 0 → AllDigits page file transfer cheque n
  unfolding no_amount
  amounts_none e k a b = by (no_amount file n) e (means bad (λ (k : ℕ). k) 0 1 (n + 1))
    where
      by : (v : ℕ) → v ≡ 0 → Means bad (λ (k : ℕ). k) 0 1 (n + 1) v → in_digits (slot_at file k) ≡ true
      by v e (inl p) = not-false _ (p.1 k a (omega arith))
      by v e (inr p) = absurd (omega (arith, p.answer, p.above))

  none_amounts : AllDigits page file transfer cheque n → no_amount file n ≡ 0
  unfolding no_amount
  none_amounts h = finds_none bad (λ (k : ℕ). k) 0 1 (n + 1) (λ k a b. ap not (h k a (omega arith)))

-- a record that breaks no rule is kept
kept_has : (rule : List ℕ → ℕ) (ts : List (List ℕ)) (i : ℕ) → i < length ts → rule (get_or ts i []) ≡ 0 → length (kept rule ts) ≡ 0 → ⊥
kept_has rule [] i l e none = omega arith
kept_has rule (t ∷ ts) zero l e none = omega (arith, ap length (front_kept rule t ts e).0)
kept_has rule (t ∷ ts) (suc i) l e none = go (eqb (rule t) 0) none (kept_has rule ts i (omega arith) e)
  where
    go : (x : Bool) → length (cond x (t ∷ kept rule ts) (kept rule ts)) ≡ 0 → (length (kept rule ts) ≡ 0 → ⊥) → ⊥
    go true n h = omega arith
    go false n h = h n

-- the walk refuses with a number
pub real : {file : List ℕ} {m k : ℕ} → Tells file (Refused m k) → m ≡ 0 → ⊥
real (inl t) z = omega (arith, t.1, z)
real (inr t) z = t.1.real z

-- which payments are kept
module _ (page : ℕ) (file transfer cheque : List ℕ) (n : ℕ) (e : structure_of file ≡ Fits n) where
  abbrev rule : List ℕ → ℕ
  rule t = rule_in page file transfer cheque t

  kept_one : (k : ℕ) → 1 ≤ k → k ≤ n → BreaksNone page file transfer cheque k → length (kept_in page file transfer cheque) ≡ 0 → ⊥
  kept_one k a b h none =
      let i : k - 1 < n = omega arith in
      let back : k - 1 + 1 ≡ k = omega arith in
      let slot : get_or (t_records file) (k - 1) [] ≡ slot_at file k = sym (slot_is file n e (k - 1) i) ∙ ap (slot_at file) back in
      kept_has rule (t_records file) (k - 1) (omega (arith, records_count file n e)) (ap rule slot ∙ is_none page file transfer cheque k h) none

  one_kept : (length (kept_in page file transfer cheque) ≡ 0 → ⊥) → Sorts page file transfer cheque n → Goes page file transfer cheque n
  one_kept some s =
      let f = kept_from rule (t_records file) 0 (first_there (length (kept_in page file transfer cheque)) some) in
      let below : f.place < n = omega (arith, f.below, records_count file n e) in
      record {
        sorts = s;
        kept = f.place + 1;
        low = omega arith;
        high = omega arith;
        right = breaks_none page file transfer cheque (f.place + 1) (ap rule (slot_is file n e f.place below ∙ f.there) ∙ f.right);
      }
    where
      first_there : (m : ℕ) → (m ≡ 0 → ⊥) → 0 < m
      first_there m h = omega arith

-- number and record of the answer
module _ (page : ℕ) (file transfer cheque out notes list : List ℕ) (there : is_page page ≡ true) where
  abbrev K : List ℕ
  K = kept_file page file transfer cheque

  abbrev answered : Sorted
  answered = default_of page file transfer cheque out notes list

  abbrev Answers : ℕ → ℕ → Type 0
  Answers m k = (answered.number ≡ m) × (answered.rec ≡ k)

  abbrev DueHere : ℕ → ℕ → Type 0
  DueHere m k = DueAnswer page file transfer cheque out notes list m k

  -- what sorting refuses, the default way refuses
  refuses : (m k : ℕ) → (m ≡ 0 → ⊥) → sort_of page file transfer cheque ≡ unsorted m k → Answers m k
  unfolding default_of
  refuses m k f e =
      let is : answered ≡ unsorted m k = sym (off_eq _ (λ z. f (sym (ap (λ (s : Sorted). s.number) e) ∙ z)) refl) ∙ e in
      (ap (λ (s : Sorted). s.number) is, ap (λ (s : Sorted). s.rec) is)

  pub shaped : (s : Shape) → structure_of file ≡ s → sort_of page file transfer cheque ≡ sort_by s page file transfer cheque
  unfolding sort_of
  shaped s e = sym (on (unsorted 7 0) there refl) ∙ ap (λ (s : Shape). sort_by s page file transfer cheque) e

  -- the rooms of a file that goes on
  pub goes_by_rooms : sort_of page file transfer cheque ≡ goes_on page file transfer cheque
      → answered
      ≡ in_rooms (ltb (length out) (length K)) (ltb (length notes) (length (notes_of page K))) (ltb (length list) (length (named_in page file transfer cheque)))
      (goes_on page file transfer cheque)
  unfolding default_of
  goes_by_rooms e =
      ap (λ (s : Sorted). default_by s page K out notes list) e
      ∙ rooms_of (goes_on page file transfer cheque) page K out notes list
      ∙ ap (λ (m : ℕ). in_rooms (ltb (length out) (length K)) (ltb (length notes) (length (notes_of page K))) (ltb (length list) m) (goes_on page file transfer cheque))
      (sym (named_count (rule_in page file transfer cheque) 1 (t_records file)))

  -- a file with n T records, by its tests
  module _ (n : ℕ) (e : structure_of file ≡ Fits n) where
    pub at_q : (rule_at page file n transfer cheque 0 ≡ 0 → ⊥) → sort_of page file transfer cheque ≡ unsorted (rule_at page file n transfer cheque 0) 0
    at_q f = shaped (Fits n) e ∙ sym (off_eq (behind_q page file n transfer cheque) f refl)

    past_q : rule_at page file n transfer cheque 0 ≡ 0 → sort_of page file transfer cheque ≡ behind_q page file n transfer cheque
    past_q z = shaped (Fits n) e ∙ sym (on_eq (unsorted (rule_at page file n transfer cheque 0) 0) z refl)

    module _ (q : rule_at page file n transfer cheque 0 ≡ 0) where
      at_amount : (no_amount file n ≡ 0 → ⊥) → sort_of page file transfer cheque ≡ unsorted 33 (no_amount file n)
      unfolding behind_q
      at_amount f = past_q q ∙ sym (off_eq _ f refl)

      module _ (a : no_amount file n ≡ 0) where
        pub at_z : (rule_at page file n transfer cheque (n + 1) ≡ 0 → ⊥) → sort_of page file transfer cheque ≡ unsorted (rule_at page file n transfer cheque (n + 1)) (n + 1)
        unfolding behind_q
        at_z f = past_q q ∙ sym (on_eq (unsorted 33 (no_amount file n)) a (off_eq _ f refl))

        module _ (z : rule_at page file n transfer cheque (n + 1) ≡ 0) where
          at_43 : length (kept_in page file transfer cheque) ≡ 0 → sort_of page file transfer cheque ≡ unsorted 43 0
          unfolding behind_q
          at_43 k =
              past_q q
              ∙ sym (on_eq (unsorted 33 (no_amount file n)) a
              (on_eq (unsorted (rule_at page file n transfer cheque (n + 1)) (n + 1)) z (on_eq (goes_on page file transfer cheque) k refl)))

          pub at_last : (length (kept_in page file transfer cheque) ≡ 0 → ⊥) → sort_of page file transfer cheque ≡ goes_on page file transfer cheque
          unfolding behind_q
          at_last f =
              past_q q
              ∙ sym (on_eq (unsorted 33 (no_amount file n)) a
              (on_eq (unsorted (rule_at page file n transfer cheque (n + 1)) (n + 1)) z (off_eq (unsorted 43 0) f refl)))

    sorts_is : Sorts page file transfer cheque n → (rule_at page file n transfer cheque 0 ≡ 0) × (no_amount file n ≡ 0) × (rule_at page file n transfer cheque (n + 1) ≡ 0)
    sorts_is s =
        (none_q page file transfer cheque n s.proper.q_right, none_amounts page file transfer cheque n s.amounts, none_z page file transfer cheque n s.z_right)

    goes_is : Goes page file transfer cheque n → sort_of page file transfer cheque ≡ goes_on page file transfer cheque
    goes_is g =
        let s = sorts_is g.sorts in
        at_last s.0 s.1 s.2 (kept_one page file transfer cheque n e g.kept g.low g.high g.right)

  -- the tests of a file that goes on, and what is then answered
  room_answers : (a b c : Bool) → ltb (length out) (length K) ≡ a → ltb (length notes) (length (notes_of page K)) ≡ b
      → ltb (length list) (length (named_in page file transfer cheque)) ≡ c → sort_of page file transfer cheque ≡ goes_on page file transfer cheque
      → answered ≡ in_rooms a b c (goes_on page file transfer cheque)
  room_answers a b c p q r e = goes_by_rooms e ∙ (λ i. in_rooms (p i) (q i) (r i) (goes_on page file transfer cheque))

  -- what is due is answered
  answers : (m k : ℕ) → DueHere m k → Answers m k
  answers m k (inl e) = refuses m k (real (rw e at (tells file))) (shaped (Refused m k) e)
  answers m k (inr (inl (n, e, f, z))) =
      let q = q_is page file transfer cheque n m f in
      let w = refuses (rule_at page file n transfer cheque 0) 0 (λ y. omega (arith, q, y, f.low)) (at_q n e (λ y. omega (arith, q, y, f.low))) in
      (w.0 ∙ q, w.1 ∙ sym z)
  answers m k (inr (inr (inl (n, p, f, z)))) =
      let a = amount_is page file transfer cheque n k f in
      let w = refuses 33 (no_amount file n) (λ y. omega (arith, y)) (at_amount n p.fits (none_q page file transfer cheque n p.q_right) (λ y. omega (arith, a, y, f.low))) in
      (w.0 ∙ sym z, w.1 ∙ a)
  answers m k (inr (inr (inr (inl (n, p, d, f, z))))) =
      let b = z_is page file transfer cheque n m f in
      let w =
      refuses (rule_at page file n transfer cheque (n + 1)) (n + 1) (λ y. omega (arith, b, y, f.low))
      (at_z n p.fits (none_q page file transfer cheque n p.q_right) (none_amounts page file transfer cheque n d) (λ y. omega (arith, b, y, f.low))) in
      (w.0 ∙ b, w.1 ∙ sym z)
  answers m k (inr (inr (inr (inr (inl (n, s, h, z, y)))))) =
      let t = sorts_is n s.proper.fits s in
      let w = refuses 43 0 (λ x. omega (arith, x)) (at_43 n s.proper.fits t.0 t.1 t.2 (none n s h)) in
      (w.0 ∙ sym z, w.1 ∙ sym y)
    where
      none : (n : ℕ) (s : Sorts page file transfer cheque n) → ((k : ℕ) → 1 ≤ k → k ≤ n → BreaksNone page file transfer cheque k → ⊥) → length (kept_in page file transfer cheque) ≡ 0
      none n s h = go (eqb (length (kept_in page file transfer cheque)) 0) refl
        where
          go : (b : Bool) → eqb (length (kept_in page file transfer cheque)) 0 ≡ b → length (kept_in page file transfer cheque) ≡ 0
          go true e = eqb-true _ 0 e
          go false e =
              let g = one_kept page file transfer cheque n s.proper.fits (eqb-false _ 0 e) s in
              absurd (h g.kept g.low g.high g.right)
  answers m k (inr (inr (inr (inr (inr (inl (n, g, l, z, y))))))) =
      let w = room_answers true _ _ (lt-ltb _ _ l) refl refl (goes_is n g.sorts.proper.fits g) in
      (ap (λ (s : Sorted). s.number) w ∙ sym z, ap (λ (s : Sorted). s.rec) w ∙ sym y)
  answers m k (inr (inr (inr (inr (inr (inr (inl ((n, g, l), i, z, y)))))))) =
      let w = room_answers false true _ (le-ltb _ _ l) (lt-ltb _ _ i) refl (goes_is n g.sorts.proper.fits g) in
      (ap (λ (s : Sorted). s.number) w ∙ sym z, ap (λ (s : Sorted). s.rec) w ∙ sym y)
  answers m k (inr (inr (inr (inr (inr (inr (inr (inl ((n, g, l), i, j, z, y))))))))) =
      let w = room_answers false false true (le-ltb _ _ l) (le-ltb _ _ i) (lt-ltb _ _ j) (goes_is n g.sorts.proper.fits g) in
      (ap (λ (s : Sorted). s.number) w ∙ sym z, ap (λ (s : Sorted). s.rec) w ∙ sym y)
  answers m k (inr (inr (inr (inr (inr (inr (inr (inr ((n, g, l), i, j, z, y))))))))) =
      let w = room_answers false false false (le-ltb _ _ l) (le-ltb _ _ i) (le-ltb _ _ j) (goes_is n g.sorts.proper.fits g) in
      (ap (λ (s : Sorted). s.number) w ∙ sym z, ap (λ (s : Sorted). s.rec) w ∙ sym y)

  -- and what is answered is due: a file with n T records, by its tests
  module _ (n : ℕ) (e : structure_of file ≡ Fits n) where
    is_proper : rule_at page file n transfer cheque 0 ≡ 0 → Proper page file transfer cheque n
    is_proper z = record { fits = e; q_right = q_none page file transfer cheque n z }

    is_sorts : rule_at page file n transfer cheque 0 ≡ 0 → no_amount file n ≡ 0 → rule_at page file n transfer cheque (n + 1) ≡ 0 → Sorts page file transfer cheque n
    is_sorts z a b = record { proper = is_proper z; amounts = amounts_none page file transfer cheque n a; z_right = z_none page file transfer cheque n b }

    due_room : Goes page file transfer cheque n → sort_of page file transfer cheque ≡ goes_on page file transfer cheque → DueHere answered.number answered.rec
    due_room g is = go (ltb (length out) (length K)) (ltb (length notes) (length (notes_of page K))) (ltb (length list) (length (named_in page file transfer cheque))) refl refl refl
      where
        told : {s : Sorted} (m k : ℕ) → answered ≡ s → s.number ≡ m → s.rec ≡ k → (answered.number ≡ m) × (answered.rec ≡ k)
        told m k w p q = (ap (λ (s : Sorted). s.number) w ∙ p, ap (λ (s : Sorted). s.rec) w ∙ q)

        go : (a b c : Bool) → ltb (length out) (length K) ≡ a → ltb (length notes) (length (notes_of page K)) ≡ b → ltb (length list) (length (named_in page file transfer cheque)) ≡ c
            → DueHere answered.number answered.rec
        go true b c p q r =
            let t = told 60 0 (room_answers true b c p q r is) refl refl in
            inr (inr (inr (inr (inr (inl (n, g, ltb-true _ _ p, t.0, t.1))))))
        go false true c p q r =
            let t = told 61 0 (room_answers false true c p q r is) refl refl in
            inr (inr (inr (inr (inr (inr (inl ((n, g, ltb-false _ _ p), ltb-true _ _ q, t.0, t.1)))))))
        go false false true p q r =
            let t = told 63 0 (room_answers false false true p q r is) refl refl in
            inr (inr (inr (inr (inr (inr (inr (inl ((n, g, ltb-false _ _ p), ltb-false _ _ q, ltb-true _ _ r, t.0, t.1))))))))
        go false false false p q r =
            let t = told 0 0 (room_answers false false false p q r is) refl refl in
            inr (inr (inr (inr (inr (inr (inr (inr ((n, g, ltb-false _ _ p), ltb-false _ _ q, ltb-false _ _ r, t.0, t.1))))))))

    due_fits : DueHere answered.number answered.rec
    due_fits =
        go (eqb (rule_at page file n transfer cheque 0) 0) (eqb (no_amount file n) 0) (eqb (rule_at page file n transfer cheque (n + 1)) 0)
        (eqb (length (kept_in page file transfer cheque)) 0) refl refl refl refl
      where
        go : (a b c d : Bool) → eqb (rule_at page file n transfer cheque 0) 0 ≡ a → eqb (no_amount file n) 0 ≡ b → eqb (rule_at page file n transfer cheque (n + 1)) 0 ≡ c
            → eqb (length (kept_in page file transfer cheque)) 0 ≡ d → DueHere answered.number answered.rec
        go false b c d p q r s =
            let f = eqb-false _ 0 p in
            let w = refuses (rule_at page file n transfer cheque 0) 0 f (at_q n e f) in
            inr (inl (n, e, q_first page file transfer cheque n answered.number w.0 (λ z. f (sym w.0 ∙ z)), w.1))
        go true false c d p q r s =
            let z = eqb-true _ 0 p in
            let f = eqb-false _ 0 q in
            let w = refuses 33 (no_amount file n) (λ y. omega (arith, y)) (at_amount n e z f) in
            inr (inr (inl (n, is_proper z, amount_first page file transfer cheque n answered.rec w.1 (λ y. f (sym w.1 ∙ y)), w.0)))
        go true true false d p q r s =
            let z = eqb-true _ 0 p in
            let a = eqb-true _ 0 q in
            let f = eqb-false _ 0 r in
            let w = refuses (rule_at page file n transfer cheque (n + 1)) (n + 1) f (at_z n e z a f) in
            inr (inr (inr (inl (n, is_proper z, amounts_none page file transfer cheque n a, z_first page file transfer cheque n answered.number w.0 (λ y. f (sym w.0 ∙ y)), w.1))))
        go true true true true p q r s =
            let z = eqb-true _ 0 p in
            let a = eqb-true _ 0 q in
            let b = eqb-true _ 0 r in
            let w = refuses 43 0 (λ y. omega (arith, y)) (at_43 n e z a b (eqb-true _ 0 s)) in
            inr (inr (inr (inr (inl (n, is_sorts z a b, (λ k l m h. kept_one page file transfer cheque n e k l m h (eqb-true _ 0 s)), w.0, w.1)))))
        go true true true false p q r s =
            let z = eqb-true _ 0 p in
            let a = eqb-true _ 0 q in
            let b = eqb-true _ 0 r in
            let f = eqb-false _ 0 s in
            due_room (one_kept page file transfer cheque n e f (is_sorts z a b)) (at_last n e z a b f)

  due : DueHere answered.number answered.rec
  due = go (structure_of file) refl (tells file)
    where
      go : (s : Shape) → structure_of file ≡ s → Tells file s → DueHere answered.number answered.rec
      go (Fits n) e t = due_fits n e
      go (Refused m k) e t =
          let w = refuses m k (real t) (shaped (Refused m k) e) in
          inl (e ∙ (λ i. Refused (sym w.0 i) (sym w.1 i)))

pub default_refuses : DefaultRefuses
default_refuses page file transfer cheque out notes list out' notes' list' answer there promise m k =
    let p = page_is_there page there in
    let is = promise.answer_is in (
      λ w.
          let number = sym (ap (λ (s : Sorted). s.number) is) ∙ w.0 in
          let rec = sym (ap (λ (s : Sorted). s.rec) is) ∙ w.1 in
          subst (λ (j : ℕ). DueAnswer page file transfer cheque out notes list m j) rec
          (subst (λ (j : ℕ). DueAnswer page file transfer cheque out notes list j (default_of page file transfer cheque out notes list).rec) number
          (due page file transfer cheque out notes list p)),
      λ d.
          let w = answers page file transfer cheque out notes list p m k d in
          (ap (λ (s : Sorted). s.number) is ∙ w.0, ap (λ (s : Sorted). s.rec) is ∙ w.1),
    )
