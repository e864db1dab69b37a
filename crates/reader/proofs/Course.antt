-- The course of a reading, byte by byte: after the first bytes of the joined ones, what the whole records among them have
-- shown, and the bytes of the unfinished one; or the first record that the walk cannot pass.
use Rattle.std.proofs.Common.{ℕ, zero, suc, ◌+◌, ◌-◌, ◌≤◌, ◌<◌, List, [], ◌∷◌, ◌++◌, arith, eqb-true, ◌≡◌, Bool, cond, ◌⊎◌, refl, sym, ap, subst, ap₂, ◌∙◌, inr, ⊎_elim, eq-or-lt_of_le, length-append, drop-drop, take-suc, get_or-drop, true, false, inl, eqb, lit≤, lit<, length, take, drop, get_or, length-take, length-drop}
use Prim.Native.Char.{code}
use Rattle.std.proofs.lemmas.Bool.{eqb-false}
use Rattle.std.proofs.Math.Seq.{drop-append_seam}
use Rattle.std.proofs.lemmas.Bool.Decides.{nat_tests}
use Rattle.laws.specs.Choice.{on_eq, off_eq, on_lt, off_lt}
use Rattle.records.specs.Places.{record_at}
use Rattle.structure.specs.Slots.{width_at, slot_at, place_is, later_width}
use Rattle.structure.specs.Walk.{letter_of, fault_in}
use Rattle.structure.specs.Whole.{WholeSlot, whole, letter_q}
use Rattle.structure.specs.Fits.{WalksOn, Reached}
use Rattle.tally.specs.declared.Tally.{Tally}
use Rattle.tally.specs.Settle.{fresh, stop_at, stopped, with_q, with_t, settle_of, Steady, steady_settle, settled_stop, settled_q, settled_t}
use Rattle.reader.specs.Cuts.{Cut, joined, holding, completing}
use Rattle.reader.specs.State.{Mid, mid, push, eat}
use Rattle.reader.specs.Eats.{width_pos}

-- record k + 1 stands after record k
pub next_place : (k : ℕ) → record_at (k + 1) ≡ record_at k + width_at k
next_place k = grind (arith, nat_tests, place_is)

module _ (page : ℕ) (cuts : List Cut) where
  -- what the first k records show, each by the lists of the cut that completes it
  unfoldable pub tally_at : ℕ → Tally
  tally_at zero = fresh
  tally_at (suc k) =
      cond (eqb k 0)
      (with_q page (completing cuts k).transfer (completing cuts k).cheque (tally_at k) (slot_at (joined cuts) k))
      (with_t page (completing cuts k).transfer (completing cuts k).cheque (tally_at k) (slot_at (joined cuts) k))

  abbrev file : List ℕ
  file = joined cuts

  module _ (k : ℕ) where
    abbrev pub by_q : Tally
    by_q = with_q page (completing cuts k).transfer (completing cuts k).cheque (tally_at k) (slot_at file k)

    abbrev pub by_t : Tally
    by_t = with_t page (completing cuts k).transfer (completing cuts k).cheque (tally_at k) (slot_at file k)

    tally_q : k ≡ 0 → by_q ≡ tally_at (suc k)
    unfolding tally_at
    tally_q z = on_eq by_t z refl

    tally_t : (k ≡ 0 → ⊥) → by_t ≡ tally_at (suc k)
    unfolding tally_at
    tally_t n = off_eq by_q n refl

  -- after Q and n T records, one T record more
  pub later_is : (n : ℕ) → tally_at (suc (suc n)) ≡ by_t (suc n)
  later_is n = sym (tally_t (suc n) (λ (q : suc n ≡ 0). omega arith))

  pub next_is : (k : ℕ) → (tally_at k).next ≡ k
  unfolding tally_at
  next_is zero = refl
  next_is (suc k) = go (eqb k 0) refl (next_is k)
    where
      go : (b : Bool) → eqb k 0 ≡ b → (tally_at k).next ≡ k → (cond b (by_q k) (by_t k)).next ≡ suc k
      go true e h = omega (arith, eqb-true k 0 e)
      go false e h = omega (arith, h)

  pub goes : (k : ℕ) → (tally_at k).stop ≡ 0
  unfolding tally_at
  goes zero = refl
  goes (suc k) = go (eqb k 0) (goes k)
    where
      go : (b : Bool) → (tally_at k).stop ≡ 0 → (cond b (by_q k) (by_t k)).stop ≡ 0
      go true h = h
      go false h = h

  -- after so many bytes: record k is unfinished, and those before it are whole
  pub record Runs (place : ℕ) (m : Mid) : Type 0 where
    pub k : ℕ
    pub due : Reached file k
    pub low : record_at k ≤ place
    pub high : place < record_at (k + 1)
    pub tally : m.tally ≡ tally_at k
    pub held : m.pending ≡ take (place - record_at k) (drop (record_at k) file)

  -- or the walk could not pass record k
  pub record Stops (place : ℕ) (m : Mid) : Type 0 where
    pub k : ℕ
    pub due : Reached file k
    pub full : record_at (k + 1) ≤ place
    pub broken : stop_at k (slot_at file k) ≡ 0 → ⊥
    pub tally : m.tally ≡ stopped (tally_at k) (stop_at k (slot_at file k))
    pub held : m.pending ≡ []

  abbrev pub Course : ℕ → Mid → Type 0
  Course place m = Steady m.tally × (Runs place m ⊎ Stops place m)

  -- a record that fills its slot, and breaks nothing, is no Z
  full_goes : (k : ℕ) → stop_at k (slot_at file k) ≡ 0 → length (slot_at file k) ≡ width_at k → WalksOn file k
  full_goes k z l = record { right = right; no_z = no_z (eqb k 0) refl }
    where
      right : fault_in k (slot_at file k) ≡ 0
      right = grind (arith, nat_tests)

      w : WholeSlot k (slot_at file k)
      w = whole k (slot_at file k) right

      no_z : (b : Bool) → eqb k 0 ≡ b → letter_of (slot_at file k) ≡ code "Z" → ⊥
      no_z true e q = eqb-false (code "Z") (code "Q") refl (sym q ∙ letter_q k (letter_of (slot_at file k)) (eqb-true k 0 e) w.here)
      no_z false e q = omega (arith, l, later_width k (omega (arith, eqb-false k 0 e)), w.last q)

  module _ (place : ℕ) (there : place < length file) (t ch : List ℕ) where
    -- one byte more of the unfinished record
    module _ (k : ℕ) (low : record_at k ≤ place) where
      one_more : take (place - record_at k) (drop (record_at k) file) ++ (get_or file place 0 ∷ [])
          ≡ take (place + 1 - record_at k) (drop (record_at k) file)
      one_more =
          let a : record_at k + (place - record_at k) ≡ place = omega arith in
          let b : suc (place - record_at k) ≡ place + 1 - record_at k = omega arith in
          ap (λ (x : ℕ). take (place - record_at k) (drop (record_at k) file) ++ (x ∷ []))
          (sym (get_or-drop (record_at k) file (place - record_at k) 0 ∙ ap (λ (j : ℕ). get_or file j 0) a))
          ∙ sym (take-suc (drop (record_at k) file) (place - record_at k) 0 (omega (arith, length-drop (record_at k) file)))
          ∙ ap (λ (n : ℕ). take n (drop (record_at k) file)) b

      held_long : length (take (place - record_at k) (drop (record_at k) file)) ≡ place - record_at k
      held_long = omega (arith, length-take (place - record_at k) (drop (record_at k) file), length-drop (record_at k) file)

    module _ (k : ℕ) (due : Reached file k) (low : record_at k ≤ place) (high : place < record_at (k + 1)) (fine : Steady (tally_at k))
        (ours : (t ≡ (holding cuts place).transfer) × (ch ≡ (holding cuts place).cheque)) where
      abbrev before : Mid
      before = mid (tally_at k) (take (place - record_at k) (drop (record_at k) file))

      abbrev more : List ℕ
      more = before.pending ++ (get_or file place 0 ∷ [])

      abbrev filled : Tally
      filled = settle_of page t ch (tally_at k) (slot_at file k)

      -- the byte does not fill the slot
      holds_on : (place + 1 ≡ record_at (k + 1) → ⊥) → Course (place + 1) (mid (tally_at k) more)
      holds_on n = (
        fine,
        inl (record {
          k = k;
          due = due;
          low = omega arith;
          high = omega arith;
          tally = refl;
          held = one_more k low;
        }),
      )

      module _ (last : place + 1 ≡ record_at (k + 1)) where
        wide : place + 1 - record_at k ≡ width_at k
        wide = omega (arith, next_place k)

        is_slot : more ≡ slot_at file k
        unfolding slot_at
        is_slot = one_more k low ∙ ap (λ (n : ℕ). take n (drop (record_at k) file)) wide

        full : length (slot_at file k) ≡ width_at k
        unfolding slot_at
        full = omega (arith, length-take (width_at k) (drop (record_at k) file), length-drop (record_at k) file, next_place k)

        by_completing : (t ≡ (completing cuts k).transfer) × (ch ≡ (completing cuts k).cheque)
        by_completing =
            let e : place ≡ record_at (k + 1) - 1 = omega arith in
            (ours.0 ∙ ap (λ (j : ℕ). (holding cuts j).transfer) e, ours.1 ∙ ap (λ (j : ℕ). (holding cuts j).cheque) e)

        stop_is : stop_at k (slot_at file k) ≡ stop_at (tally_at k).next (slot_at file k)
        stop_is = ap (λ (j : ℕ). stop_at j (slot_at file k)) (sym (next_is k))

        goes_on : stop_at k (slot_at file k) ≡ 0 → filled ≡ tally_at (suc k)
        goes_on z =
            ap₂ (λ (a b : List ℕ). settle_of page a b (tally_at k) (slot_at file k)) by_completing.0 by_completing.1 ∙ go (eqb k 0) refl
          where
            go : (b : Bool) → eqb k 0 ≡ b
                → settle_of page (completing cuts k).transfer (completing cuts k).cheque (tally_at k) (slot_at file k) ≡ tally_at (suc k)
            go true e =
                let q = eqb-true k 0 e in
                sym (settled_q page _ _ (tally_at k) (slot_at file k) stop_is z (next_is k ∙ q) (sym (tally_q k q)))
            go false e =
                let n = eqb-false k 0 e in
                sym (settled_t page _ _ (tally_at k) (slot_at file k) stop_is z (λ q. n (sym (next_is k) ∙ q)) (sym (tally_t k n)))

        reached : stop_at k (slot_at file k) ≡ 0 → Reached file (k + 1)
        reached z j h =
            ⊎_elim (λ (q : j ≡ k). subst (WalksOn file) (sym q) (full_goes k z full)) (λ (l : j < k). due j l)
            (eq-or-lt_of_le (omega arith))

        settles : Course (place + 1) (mid filled [])
        settles = (steady_settle page t ch (tally_at k) (slot_at file k) fine, go (eqb (stop_at k (slot_at file k)) 0) refl)
          where
            go : (b : Bool) → eqb (stop_at k (slot_at file k)) 0 ≡ b → Runs (place + 1) (mid filled []) ⊎ Stops (place + 1) (mid filled [])
            go true e =
                let z = eqb-true _ _ e in
                let up : suc k ≡ k + 1 = omega arith in
                let none : place + 1 - record_at (k + 1) ≡ 0 = omega arith in
                inl
                (record {
                  k = k + 1;
                  due = reached z;
                  low = omega arith;
                  high = omega (arith, next_place (k + 1), width_pos (k + 1));
                  tally = goes_on z ∙ ap tally_at up;
                  held = rw none;
                })
            go false e =
                let n = eqb-false _ _ e in
                inr
                (record {
                  k = k;
                  due = due;
                  full = omega arith;
                  broken = n;
                  tally = sym (settled_stop page t ch (tally_at k) (slot_at file k) stop_is n);
                  held = refl;
                })

      run_step : Course (place + 1) (push page t ch before (get_or file place 0))
      run_step = go (eqb (place + 1) (record_at (k + 1))) refl
        where
          long : length before.pending + 1 ≡ place + 1 - record_at k
          long = omega (arith, held_long k low)

          width : width_at (tally_at k).next ≡ width_at k
          width = ap width_at (next_is k)

          fills : place + 1 ≡ record_at (k + 1) → push page t ch before (get_or file place 0) ≡ mid filled []
          fills e =
              let all : length before.pending + 1 ≡ width_at (tally_at k).next = omega (arith, long, width, next_place k) in
              sym (on_eq before (goes k) (on_eq (mid (tally_at k) more) all refl))
              ∙ ap (λ (s : List ℕ). mid (settle_of page t ch (tally_at k) s) []) (is_slot e)

          adds : (place + 1 ≡ record_at (k + 1) → ⊥) → push page t ch before (get_or file place 0) ≡ mid (tally_at k) more
          adds n =
              sym
              (on_eq before (goes k)
              (off_eq (mid (settle_of page t ch (tally_at k) more) [])
              (λ (q : length before.pending + 1 ≡ width_at (tally_at k).next). n (omega (arith, long, width, next_place k))) refl))

          go : (b : Bool) → eqb (place + 1) (record_at (k + 1)) ≡ b → Course (place + 1) (push page t ch before (get_or file place 0))
          go true e =
              let q = eqb-true _ _ e in
              subst (Course (place + 1)) (sym (fills q)) (settles q)
          go false e =
              let n = eqb-false _ _ e in
              subst (Course (place + 1)) (sym (adds n)) (holds_on n)

    -- one byte more of the joined ones, from the cut that holds it
    pub step : (m : Mid) → (t ≡ (holding cuts place).transfer) × (ch ≡ (holding cuts place).cheque) → Course place m
        → Course (place + 1) (push page t ch m (get_or file place 0))
    step m ours (fine, inl r) =
        let same : m ≡ mid (tally_at r.k) (take (place - record_at r.k) (drop (record_at r.k) file)) = ap₂ mid r.tally r.held in
        subst (λ (n : Mid). Course (place + 1) (push page t ch n (get_or file place 0))) (sym same)
        (run_step r.k r.due r.low r.high (subst Steady r.tally fine) ours)
    step m ours (fine, inr s) =
        let n : m.tally.stop ≡ 0 → ⊥ = λ z. s.broken (sym (ap (λ (c : Tally). c.stop) s.tally) ∙ z) in
        subst (Course (place + 1)) (off_eq {y = m} _ n refl)
        (fine, inr (record { k = s.k; due = s.due; full = omega (arith, s.full); broken = s.broken; tally = s.tally; held = s.held }))

  -- a cut: its bytes stand from that place on
  cut_course : (t ch xs rest : List ℕ) (place : ℕ) (m : Mid) → drop place file ≡ xs ++ rest
      → ((p : ℕ) → place ≤ p → p < place + length xs → (t ≡ (holding cuts p).transfer) × (ch ≡ (holding cuts p).cheque)) → Course place m
      → Course (place + length xs) (eat page t ch m xs)
  unfolding eat
  cut_course t ch [] rest place m e h c =
      let z : place + 0 ≡ place = omega arith in
      rw z c
  cut_course t ch (x ∷ xs) rest place m e h c =
      let there : place < length file = omega (arith, length-drop place file, ap length e) in
      let a : place + 0 ≡ place = omega arith in
      let b : place + 1 + length xs ≡ place + suc (length xs) = omega arith in
      let first : get_or file place 0 ≡ x =
      ap (λ (j : ℕ). get_or file j 0) (sym a) ∙ sym (get_or-drop place file 0 0) ∙ ap (λ (l : List ℕ). get_or l 0 0) e in
      let later : drop (place + 1) file ≡ xs ++ rest = sym (drop-drop 1 place file) ∙ ap (drop 1) e in
      subst (λ (n : ℕ). Course n (eat page t ch (push page t ch m x) xs)) b
      (cut_course t ch xs rest (place + 1) (push page t ch m x) later (λ p l u. h p (omega arith) (omega arith))
      (subst (λ (y : ℕ). Course (place + 1) (push page t ch m y)) first
      (step place there t ch m (h place (omega arith) (omega arith)) c)))

  -- before the first byte
  pub course_start : Course 0 (mid fresh [])
  unfolding tally_at
  course_start = (
    record { few = lit≤ tt; euros_fit = lit≤ tt; cents_fit = lit≤ tt; changes_fit = lit≤ tt },
    inl
        (record {
          k = 0;
          due = λ j h. absurd (omega arith);
          low = lit≤ tt;
          high = lit< tt;
          tally = refl;
          held = refl;
        }),
  )

  -- the cuts from that place on, which are those of cs
  pub record From (place : ℕ) (cs : List Cut) : Type 0 where
    pub within : place ≤ length file
    pub bytes : drop place file ≡ joined cs
    pub cut_at : (j : ℕ) → holding cuts (place + j) ≡ holding cs j

  pub from_start : From 0 cuts
  from_start = record { within = omega arith; bytes = refl; cut_at = λ j. let z : 0 + j ≡ j = omega arith in ap (holding cuts) z }

  module _ (place : ℕ) (cut : Cut) (cs : List Cut) (from : From place (cut ∷ cs)) where
    -- the first of them holds its own bytes
    own : (p : ℕ) → place ≤ p → p < place + length cut.bytes → cut ≡ holding cuts p
    own p low high =
        let e : place + (p - place) ≡ p = omega arith in
        let l : p - place < length cut.bytes = omega arith in
        on_lt {x = cut} (holding cs (p - place - length cut.bytes)) l refl ∙ sym (from.cut_at (p - place)) ∙ ap (holding cuts) e

    pub from_next : From (place + length cut.bytes) cs
    from_next =
        record {
          within = omega (arith, from.within, length-drop place file, ap length from.bytes, length-append cut.bytes (joined cs));
          bytes = sym (drop-drop (length cut.bytes) place file) ∙ ap (drop (length cut.bytes)) from.bytes ∙ drop-append_seam cut.bytes (joined cs);
          cut_at = λ j.
              let a : place + length cut.bytes + j ≡ place + (length cut.bytes + j) = omega arith in
              let b : length cut.bytes + j - length cut.bytes ≡ j = omega arith in
              let l : length cut.bytes ≤ length cut.bytes + j = omega arith in
              ap (holding cuts) a ∙ from.cut_at (length cut.bytes + j)
              ∙ sym (off_lt {y = holding cs (length cut.bytes + j - length cut.bytes)} cut l refl) ∙ ap (holding cs) b;
        }

    pub whole_cut : (m : Mid) → Course place m
        → Course (place + length cut.bytes) (eat page cut.transfer cut.cheque m cut.bytes)
    whole_cut m c =
        cut_course cut.transfer cut.cheque cut.bytes (joined cs) place m from.bytes
        (λ p l h. (ap (λ (x : Cut). x.transfer) (own p l h), ap (λ (x : Cut). x.cheque) (own p l h))) c

  -- the unfinished record does not fill its slot
  pub course_short : (place : ℕ) (m : Mid) → place ≤ length file → Course place m → length m.pending < width_at m.tally.next
  course_short place m h (fine, inl r) =
      let next : m.tally.next ≡ r.k = ap (λ (c : Tally). c.next) r.tally ∙ next_is r.k in
      omega (arith, ap length r.held, length-take (place - record_at r.k) (drop (record_at r.k) file), r.low, r.high, next_place r.k, ap width_at next)
  course_short place m h (fine, inr s) = omega (arith, ap length s.held, width_pos m.tally.next)
