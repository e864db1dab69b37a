-- What filing answers, and what it leaves.
use Prim.Native.Nat.{ℕ, zero, suc, ◌+◌, ◌*◌, ◌≤◌, ◌<◌}
use mathlib.Core.Path.{◌≡◌, refl, sym, ap, subst, ◌∙◌}
use mathlib.Core.Bool.{Bool, true, false, cond}
use mathlib.Core.List.{List, [], ◌∷◌, map}
use mathlib.Core.Logic.{◌⊎◌, inl, inr}
use native.Mathlib.Omega.{arith}
use borrow.Author.Tests.{eqb-true, eqb-false, ltb-false}
use lib.Dec.{eqb, ltb}
use lib.ListN.{length, get_or, take, drop}
use lib.Seq.{drop_at, length-take-le}
use Rattle.laws.specs.Choice.{on_eq, off_eq, on_lt, off_lt}
use Rattle.laws.specs.Sums.{sum_of}
use Rattle.charset.specs.Table.{is_page}
use Rattle.records.specs.Places.{◌to◌, part, t_place}
use Rattle.records.specs.Inside.{held, t_inside}
use Rattle.records.specs.declared.TField.TheVariants.{T14a, T14b}
use Rattle.fields.specs.Number.{dec}
use Rattle.payments.specs.Rules.{key_of, in_t}
use Rattle.structure.specs.Slots.{slot_at}
use Rattle.structure.specs.Walk.{structure_of}
use Rattle.judge.specs.Sums.{euros, cents, dec_append}
use Rattle.judge.specs.Records.{joined}
use Rattle.forwarding.specs.Forwarded.{notes_of}
use Rattle.forwarding.specs.Put.{put}
use Rattle.sorting.specs.Kept.{t_records, rule_in, returned_in, named_in, kept_file}
use Rattle.sorting.specs.Sorted.{unsorted, sort_by, sort_of}
use Rattle.sorting.proofs.Sound.{first_below}
use Rattle.sorting.specs.Lists.{named_count}
use Rattle.sorting.specs.Frame.{records_are, records_count, lengths, q_found, t_found}
use Rattle.sorting.proofs.Goes.{GoesOn, goes, sortable}
use Rattle.sorting.specs.declared.Sorted.{Sorted}
use Rattle.prepare.specs.Default.{default_of, DefaultAs}
use Rattle.m8.specs.Filed.{record_in, records_of, not_filed, filed, filed_by, filed_of, FiledAs}
use Rattle.m8.specs.Course.{code_long, ones_long}
use Rattle.m8.proofs.Course.{record_long, all_filed}
use Rattle.m8.specs.declared.Filed.{Filed}
use Rattle.demands.specs.Sorting.{RefusingRule}
use Rattle.demands.proofs.Pages.{page_is_there, no_page}
use Rattle.demands.proofs.Named.{named_only, slots_at}
use Rattle.demands.proofs.Rooms.{in_rooms, by_rooms}
use Rattle.demands.proofs.Sorting.{list_front, PlainSort, sort_plain}
use Rattle.demands.proofs.Due.{amounts_none}
use Rattle.filing.specs.Filing.{OfPayment, m8s, Files, FilesTheReturned, FilesAsListed, AmountsAddUp, Carried, FiledCarried, FiledRefuses, FiledNumbers, FiledKeeps, FiledPage, FiledSettled}
use Rattle.filing.proofs.Fields.{of_payment, m8s_are, sums_are, sum_cents}
use Rattle.filing.proofs.Carried.{carried}

-- what prepare answers below 60 is what sorting answers
sorted_as : (page : ℕ) (file transfer cheque out notes list : List ℕ) → (default_of page file transfer cheque out notes list).number < 60
    → default_of page file transfer cheque out notes list ≡ sort_of page file transfer cheque
sorted_as page file transfer cheque out notes list low =
    go (eqb s.number 0) (ltb (length out) (length kept)) (ltb (length notes) (length (notes_of page kept))) (ltb (length list) s.payments.returned) (by_rooms page file transfer cheque out notes list) low
  where
    s : Sorted
    s = sort_of page file transfer cheque

    kept : List ℕ
    kept = kept_file page file transfer cheque

    go : (z a b c : Bool) → {p : Sorted} → p ≡ cond z (in_rooms a b c (sort_of page file transfer cheque)) (sort_of page file transfer cheque) → p.number < 60
        → p ≡ sort_of page file transfer cheque
    go false a b c e l = e
    go true true b c e l = absurd (omega (arith, l, ap (λ (s : Sorted). s.number) e))
    go true false true c e l = absurd (omega (arith, l, ap (λ (s : Sorted). s.number) e))
    go true false false true e l = absurd (omega (arith, l, ap (λ (s : Sorted). s.number) e))
    go true false false false e l = e

module _ (page : ℕ) (file transfer cheque codes out out' : List ℕ) (answer : Filed) (promise : FiledAs page file transfer cheque codes out answer out') where
  abbrev s : Sorted
  s = sort_of page file transfer cheque

  answer_is : answer ≡ filed_by s codes out
  unfolding filed_of
  answer_is = promise.answer_is

  kept : (answer.number ≡ 0 → ⊥) → out' ≡ out
  kept f = promise.out_is ∙ sym (off_eq _ f refl)

  -- 0 is answered
  pub record Success : Type 0 where
    pub sorted : s.number ≡ 0
    pub table : length codes ≡ 96
    pub room : 124 * s.payments.returned ≤ length out
    pub is : answer ≡ filed s.payments.returned

  succeeds : answer.number ≡ 0 → Success
  succeeds z = go (eqb s.number 0) (eqb (length codes) 96) (ltb (length out) (124 * s.payments.returned)) refl refl refl answer_is z
    where
      go : (a b c : Bool) → eqb s.number 0 ≡ a → eqb (length codes) 96 ≡ b → ltb (length out) (124 * s.payments.returned) ≡ c
          → answer ≡ cond a (cond b (cond c (not_filed 60 0) (filed s.payments.returned)) (not_filed 62 0)) (not_filed s.number s.rec) → answer.number ≡ 0 → Success
      go false b c p q r e z = absurd (eqb-false _ 0 p (sym (ap (λ (f : Filed). f.number) e) ∙ z))
      go true false c p q r e z = absurd (omega (arith, z, ap (λ (f : Filed). f.number) e))
      go true true true p q r e z = absurd (omega (arith, z, ap (λ (f : Filed). f.number) e))
      go true true false p q r e z = record { sorted = eqb-true _ 0 p; table = eqb-true _ 96 q; room = ltb-false _ _ r; is = e }

  module _ (z : answer.number ≡ 0) where
    w : Success
    w = succeeds z

    on : (n : ℕ) × GoesOn page file transfer cheque n
    on = goes page file transfer cheque w.sorted

    abbrev n : ℕ
    n = on.0

    abbrev g : GoesOn page file transfer cheque n
    g = on.1

    abbrev rule : List ℕ → ℕ
    rule t = rule_in page file transfer cheque t

    abbrev R : List ℕ → List ℕ
    R t = record_in page file transfer cheque codes t

    abbrev back : List (List ℕ)
    back = returned_in page file transfer cheque

    many : answer.count ≡ length back
    many = ap (λ (f : Filed). f.count) w.is ∙ ap (λ (s : Sorted). s.payments.returned) g.answer

    -- the payment that comes back at place i, and its name
    record At (i : ℕ) : Type 0 where
      k : ℕ
      low : 1 ≤ k
      high : k ≤ n
      comes_back : get_or back i [] ≡ slot_at file k
      name : get_or (named_in page file transfer cheque) i 0 ≡ k * 100 + rule (slot_at file k)

    at : (i : ℕ) → i < answer.count → At i
    at i l =
        let w = named_only rule 1 (t_records file) i (omega (arith, many, named_count rule 1 (t_records file))) in
        let below : w.place < n = omega (arith, w.below, records_count file n g.fits) in
        let slot : get_or (t_records file) w.place [] ≡ slot_at file (1 + w.place) =
        ap (λ (ts : List (List ℕ)). get_or ts w.place []) (records_are file n g.fits) ∙ slots_at file 1 n w.place below in
        record {
          k = 1 + w.place;
          low = omega arith;
          high = omega arith;
          comes_back = w.comes_back ∙ slot;
          name = w.is ∙ ap (λ (t : List ℕ). (1 + w.place) * 100 + rule t) slot;
        }

    -- and its record
    long : (i : ℕ) (a : At i) → length (slot_at file a.k) ≡ 768
    long i a = t_found file n g.fits a.k a.low a.high refl

    records : m8s answer.count out' ≡ map R back
    unfolding records_of
    records =
        ap (λ (m : ℕ). m8s m out') many ∙ ap (m8s (length back)) (promise.out_is ∙ sym (on_eq out z refl))
        ∙ m8s_are R back (drop (0 + length (joined (map R back))) out)
        (λ i l.
        let a = at i (omega (arith, many)) in
        ap (λ (t : List ℕ). length (R t)) a.comes_back ∙ record_long page file transfer cheque codes n g.fits w.table (slot_at file a.k) (long i a))

    mapped : (ts : List (List ℕ)) (i : ℕ) → i < length ts → get_or (map R ts) i [] ≡ R (get_or ts i [])
    mapped [] i l = absurd (omega arith)
    mapped (t ∷ ts) zero l = refl
    mapped (t ∷ ts) (suc i) l = mapped ts i (omega arith)

    record_at : (i : ℕ) (l : i < answer.count) → get_or (m8s answer.count out') i [] ≡ R (slot_at file (at i l).k)
    record_at i l =
        ap (λ (ms : List (List ℕ)). get_or ms i []) records ∙ mapped back i (omega (arith, many)) ∙ ap R (at i l).comes_back

    of : (i : ℕ) (a : At i) → OfPayment page (slot_at file 0) codes (slot_at file a.k) (rule (slot_at file a.k)) (R (slot_at file a.k))
    of i a =
        of_payment page (slot_at file 0) codes (slot_at file a.k) (rule (slot_at file a.k)) (q_found file n g.fits refl) (long i a) w.table
        (first_below page transfer cheque (key_of (slot_at file 1)) (slot_at file a.k))

    each : (i k r : ℕ) → i < answer.count → r < 100 → get_or (named_in page file transfer cheque) i 0 ≡ k * 100 + r
        → OfPayment page (slot_at file 0) codes (slot_at file k) r (get_or (m8s answer.count out') i [])
    each i k r l small e =
        let a = at i l in
        let low = first_below page transfer cheque (key_of (slot_at file 1)) (slot_at file a.k) in
        let k_is : a.k ≡ k = omega (arith, a.name, e, low) in
        let rule_is : rule (slot_at file a.k) ≡ r = omega (arith, a.name, e, low) in
        subst (OfPayment page (slot_at file 0) codes (slot_at file k) r) (sym (record_at i l))
        (subst (λ (j : ℕ). OfPayment page (slot_at file 0) codes (slot_at file j) r (R (slot_at file a.k))) k_is
        (subst (λ (r : ℕ). OfPayment page (slot_at file 0) codes (slot_at file a.k) r (R (slot_at file a.k))) rule_is (of i a)))

    files : Files page file codes (named_in page file transfer cheque) out out' answer
    files =
        record {
          many = many ∙ sym (named_count rule 1 (t_records file));
          each = each;
          room = omega (arith, w.room, ap (λ (f : Filed). f.count) w.is);
          rest = rest;
        }
      where
        whole : length (records_of page file transfer cheque codes) ≡ 124 * answer.count
        whole =
            ap length (sym (all_filed page file transfer cheque codes n g.fits))
            ∙ ones_long rule R (record_long page file transfer cheque codes n g.fits w.table) (t_records file) (lengths file n g.fits).t_size
            ∙ ap (λ (m : ℕ). 124 * m) (sym many)

        rest : drop (124 * answer.count) out' ≡ drop (124 * answer.count) out
        rest =
            let all : 0 + length (records_of page file transfer cheque codes) ≡ 124 * answer.count = omega (arith, whole) in
            ap (drop (124 * answer.count)) (promise.out_is ∙ sym (on_eq out z refl))
            ∙ drop_at (records_of page file transfer cheque codes) (drop (0 + length (records_of page file transfer cheque codes)) out) (124 * answer.count) whole
            ∙ ap (λ (m : ℕ). drop m out) all

    -- the amounts
    amount : (i : ℕ) (a : At i) → dec (part (38 to 55) (R (slot_at file a.k))) ≡ 100 * euros (slot_at file a.k) + cents (slot_at file a.k)
    unfolding dec part
    amount i a =
        let t = slot_at file a.k in
        let two : length (take 2 (in_t T14b t)) ≡ 2 = length-take-le 2 (in_t T14b t) (omega (arith, (held (t_place T14b) t refl (t_inside T14b) (long i a)).long)) in
        ap dec (of i a).dm8_8 ∙ dec_append (in_t T14a t) (take 2 (in_t T14b t)) ∙ rw two (omega arith)

    amounts : sum_of (λ (m8 : List ℕ). dec (part (38 to 55) m8)) (m8s answer.count out') ≡ 100 * sum_of euros back + sum_of cents back
    amounts =
        ap (sum_of (λ (m8 : List ℕ). dec (part (38 to 55) m8))) records
        ∙ sums_are R (λ (m8 : List ℕ). dec (part (38 to 55) m8)) (λ (t : List ℕ). 100 * euros t + cents t) back
        (λ i l.
        let a = at i (omega (arith, many)) in
        ap (λ (t : List ℕ). dec (part (38 to 55) (R t))) a.comes_back ∙ amount i a ∙ sym (ap (λ (t : List ℕ). 100 * euros t + cents t) a.comes_back))
        ∙ sum_cents euros cents back

    is_carried : (i : ℕ) → i < answer.count → Carried codes (get_or (m8s answer.count out') i [])
    is_carried i l =
        let a = at i l in
        let q_rules = (sortable page file transfer cheque n g).q_rules in
        subst (Carried codes) (sym (record_at i l))
        (carried page (slot_at file 0) codes (slot_at file a.k) (rule (slot_at file a.k)) (of i a) refl (long i a) (code_long codes (rule (slot_at file a.k)) w.table (first_below page transfer cheque (key_of (slot_at file 1)) (slot_at file a.k))) (q_rules 13 (omega arith) (omega arith)) (q_rules 14 (omega arith) (omega arith))
        (amounts_none page file transfer cheque n g.amounts a.k a.low a.high))

  -- which of the cases, by its three tests
  abbrev by_tests : Bool → Bool → Bool → Filed
  by_tests a b c = cond a (cond b (cond c (not_filed 60 0) (filed s.payments.returned)) (not_filed 62 0)) (not_filed s.number s.rec)

  zeros : (answer.number ≡ 0 → ⊥) → answer ≡ not_filed answer.number answer.rec
  zeros f = go (eqb s.number 0) (eqb (length codes) 96) (ltb (length out) (124 * s.payments.returned)) answer_is
    where
      told : (m k : ℕ) → answer ≡ not_filed m k → answer ≡ not_filed answer.number answer.rec
      told m k e = e ∙ sym (ap (λ (f : Filed). not_filed f.number f.rec) e)

      go : (a b c : Bool) → answer ≡ by_tests a b c → answer ≡ not_filed answer.number answer.rec
      go false b c e = told s.number s.rec e
      go true false c e = told 62 0 e
      go true true true e = told 60 0 e
      go true true false e = absurd (f (ap (λ (f : Filed). f.number) e))

  sort_7 : is_page page ≡ false → s ≡ unsorted 7 0
  unfolding sort_of
  sort_7 there = ap (λ (t : Bool). cond t (sort_by (structure_of file) page file transfer cheque) (unsorted 7 0)) there

  abbrev Numbered : ℕ → Type 0
  Numbered m = (m ≡ 0) ⊎ (RefusingRule m ⊎ ((m ≡ 7) ⊎ ((m ≡ 43) ⊎ ((m ≡ 62) ⊎ (m ≡ 60)))))

  numbers : Numbered answer.number
  numbers =
      subst (λ (f : Filed). Numbered f.number) (sym answer_is)
      (go (eqb s.number 0) (eqb (length codes) 96) (ltb (length out) (124 * s.payments.returned)) (sorts (is_page page) refl))
    where
      plain : PlainSort s → Numbered s.number
      plain (inl z) = inl z
      plain (inr (inl r, q)) = inr (inl r)
      plain (inr (inr e, q)) = inr (inr (inr (inl e)))

      sorts : (t : Bool) → is_page page ≡ t → Numbered s.number
      sorts true t = plain (sort_plain page file transfer cheque t)
      sorts false t = inr (inr (inl (ap (λ (s : Sorted). s.number) (sort_7 t))))

      go : (a b c : Bool) → Numbered s.number → Numbered (by_tests a b c).number
      go false b c h = h
      go true false c h = inr (inr (inr (inr (inl refl))))
      go true true true h = inr (inr (inr (inr (inr refl))))
      go true true false h = inl refl

  no_7 : is_page page ≡ true → answer.number ≡ 7 → ⊥
  no_7 there e =
      go (eqb s.number 0) (eqb (length codes) 96) (ltb (length out) (124 * s.payments.returned)) (sym (ap (λ (f : Filed). f.number) answer_is) ∙ e)
    where
      plain : PlainSort s → s.number ≡ 7 → ⊥
      plain (inl z) e = omega (arith, z, e)
      plain (inr (inl (inl r), q)) e = omega (arith, r.1, e)
      plain (inr (inl (inr (inl r)), q)) e = omega (arith, r.0, e)
      plain (inr (inl (inr (inr (inl r))), q)) e = omega (arith, r, e)
      plain (inr (inl (inr (inr (inr r))), q)) e = omega (arith, r.0, e)
      plain (inr (inr r, q)) e = omega (arith, r, e)

      go : (a b c : Bool) → (by_tests a b c).number ≡ 7 → ⊥
      go false b c e = plain (sort_plain page file transfer cheque there) e
      go true false c e = omega (arith, e)
      go true true true e = omega (arith, e)
      go true true false e = omega (arith, e)

pub files_the_returned : FilesTheReturned
files_the_returned page file transfer cheque codes out out' answer promise z = files page file transfer cheque codes out out' answer promise z

pub files_as_listed : FilesAsListed
files_as_listed page file transfer cheque codes out out' answer promise z room notes list room' notes' list' prepared p sent =
    subst (λ (names : List ℕ). Files page file codes names out out' answer)
    (sym (list_front page file transfer cheque room notes list room' notes' list' prepared p sent))
    (files page file transfer cheque codes out out' answer promise z)

-- of prepare's answer, where its rooms are long enough
prepared_is : (page : ℕ) (file transfer cheque room notes list room' notes' list' : List ℕ) (prepared : Sorted)
    → DefaultAs page file transfer cheque room notes list prepared room' notes' list' → prepared.number < 60 → prepared ≡ sort_of page file transfer cheque
prepared_is page file transfer cheque room notes list room' notes' list' prepared p low =
    p.answer_is ∙ sorted_as page file transfer cheque room notes list (omega (arith, low, ap (λ (s : Sorted). s.number) p.answer_is))

pub amounts_add_up : AmountsAddUp
amounts_add_up page file transfer cheque codes out out' answer promise z room notes list room' notes' list' prepared p zero_is =
    let is = prepared_is page file transfer cheque room notes list room' notes' list' prepared p (omega (arith, zero_is)) in
    let g = (goes page file transfer cheque (sym (ap (λ (s : Sorted). s.number) is) ∙ zero_is)).1 in
    let euros_are : prepared.euros.returned ≡ sum_of euros (returned_in page file transfer cheque) = ap (λ (s : Sorted). s.euros.returned) (is ∙ g.answer) in
    omega (arith, euros_are, amounts page file transfer cheque codes out out' answer promise z)

pub filed_carried : FiledCarried
filed_carried page file transfer cheque codes out out' answer promise z i l = is_carried page file transfer cheque codes out out' answer promise z i l

pub filed_refuses : FiledRefuses
filed_refuses page file transfer cheque codes out out' answer promise room notes list room' notes' list' prepared p low =
    let is = prepared_is page file transfer cheque room notes list room' notes' list' prepared p low in
    let by : answer ≡ filed_by prepared codes out = answer_is page file transfer cheque codes out out' answer promise ∙ ap (λ (s : Sorted). filed_by s codes out) (sym is) in (
      λ f. by ∙ sym (off_eq _ f refl),
      λ z f. by ∙ sym (on_eq _ z (off_eq _ f refl)),
      λ z t l. by ∙ sym (on_eq _ z (on_eq _ t (on_lt _ l refl))),
      λ z t l. by ∙ sym (on_eq _ z (on_eq _ t (off_lt _ l refl))),
    )

pub filed_numbers : FiledNumbers
filed_numbers page file transfer cheque codes out out' answer promise = numbers page file transfer cheque codes out out' answer promise

pub filed_keeps : FiledKeeps
filed_keeps page file transfer cheque codes out out' answer promise f =
    (kept page file transfer cheque codes out out' answer promise f, zeros page file transfer cheque codes out out' answer promise f)

pub filed_page : FiledPage
filed_page page file transfer cheque codes out out' answer promise = (
  λ p. no_7 page file transfer cheque codes out out' answer promise (page_is_there page p),
  λ n.
      let is : answer ≡ not_filed 7 0 =
      answer_is page file transfer cheque codes out out' answer promise ∙ ap (λ (s : Sorted). filed_by s codes out) (sort_7 page file transfer cheque codes out out' answer promise (no_page page n)) in
      (is, kept page file transfer cheque codes out out' answer promise (λ z. omega (arith, z, ap (λ (f : Filed). f.number) is))),
)

pub filed_settled : FiledSettled
filed_settled page file transfer cheque codes out =
    record {
      some =
          let answer = filed_of page file transfer cheque codes out in
          ((answer, cond (eqb answer.number 0) (put 0 (records_of page file transfer cheque codes) out) out), record { answer_is = refl; out_is = refl });
      coincide =
          λ x y p q.
          let same : x.0 ≡ y.0 = p.answer_is ∙ sym q.answer_is in
          let outs = p.out_is ∙ ap (λ (r : Filed). cond (eqb r.number 0) (put 0 (records_of page file transfer cheque codes) out) out) same ∙ sym q.out_is in
          λ i. (same i, outs i);
    }
