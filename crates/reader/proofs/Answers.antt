-- What the end answers after any cuts is what the reading means; and, with one pair of lists throughout, it is the judge's
-- answer over the joined bytes.
use Rattle.std.proofs.Common.{ℕ, suc, ◌+◌, ◌-◌, ◌≤◌, ◌<◌, min, arith, List, ◌≡◌, Bool, true, false, eqb, ltb, length, refl, sym, ap, ap₂, subst, ◌∙◌, inl, inr, ltb-true, ltb-false, eqb-true, cond}
use Rattle.std.proofs.lemmas.Bool.{eqb-false}
use Rattle.laws.specs.Choice.{on_eq, off_eq, on_lt}
use Rattle.charset.specs.Table.{is_page}
use Rattle.fields.specs.Lists.{is_taken}
use Rattle.records.specs.Places.{record_at}
use Rattle.structure.specs.Slots.{slot_at, width_at, place_is, slot_length, slot_short}
use Rattle.structure.specs.Walk.{fault_in, structure_of}
use Rattle.structure.specs.Fits.{Reached, Fit, Stuck, fit, fit_found, stuck_found}
use Rattle.structure.specs.Shape.{Shape, Fits, Refused}
use Rattle.judge.specs.Sums.{euro_sum, cent_sum, file_number}
use Rattle.judge.specs.Verdict.{refused, sound, unless, or_taken}
use Rattle.judge.specs.declared.Breach.{Breach}
use Rattle.judge.specs.declared.Verdict.{Verdict}
use Rattle.forwarding.specs.Forwarded.{notes_of}
use Rattle.tally.specs.declared.Tally.{Tally}
use Rattle.tally.specs.Settle.{stop_at}
use Rattle.tally.specs.Conclude.{ends_in, at_z, conclude_of, too_long, has_stopped, ends_broken, ends_whole}
use Rattle.reader.specs.declared.Answer.{Answer}
use Rattle.reader.specs.declared.Reader.{Reader}
use Rattle.reader.specs.declared.Read.{Read}
use Rattle.reader.specs.Cuts.{Cut, joined, read_by, read_verdict, read_judged, reading_of}
use Rattle.reader.specs.State.{Mid, mid, pending, answered, in_order, new_of, judged_of, or_taken_by, found_of, read_of, end_of}
use Rattle.reader.proofs.Course.{tally_at, next_is, goes, next_place, Stops, Course}
use Rattle.reader.proofs.Figures.{euros_are, cents_are, number_is, changes_are, content_is}
use Rattle.reader.proofs.Reading.{fed_all, ReadAll, all_read, in_order_is}

module _ (page : ℕ) (cuts : List Cut) where
  abbrev file : List ℕ
  file = joined cuts

  by_structure : (s : Shape) → structure_of file ≡ s → read_verdict page cuts ≡ read_by s page cuts
  unfolding read_verdict
  by_structure s e = ap (λ (x : Shape). read_by x page cuts) e

  -- the answer at a whole Z, after n T records
  at_z_is : (n : ℕ) → at_z page (tally_at page cuts (n + 1)) (slot_at file (n + 1)) ≡ read_by (Fits n) page cuts
  at_z_is n =
      let s = tally_at page cuts (n + 1) in
      let up : suc n ≡ n + 1 = omega arith in
      let back : n + 1 - 1 ≡ n = omega arith in
      let e : s.euros ≡ euro_sum file n = rw up at (euros_are page cuts n) in
      let c : s.cents ≡ cent_sum file n = rw up at (cents_are page cuts n) in
      rw (next_is page cuts (n + 1), back, e, c)
      (ap (λ (b : Breach). unless b (sound n (euro_sum file n) (cent_sum file n))) (content_is page cuts n (euro_sum file n) s.key))

  -- what is told of a file that fits: besides the verdict, the file's number and the changes
  abbrev Figures : Tally → Type 0
  Figures s = (s.number ≡ file_number (slot_at file 0)) × (s.changes ≡ length (notes_of page file))

  abbrev Concludes : Tally → List ℕ → Type 0
  Concludes s left =
      (conclude_of page s (min 7679745 (length file)) left ≡ read_verdict page cuts) × ((read_verdict page cuts).number ≡ 0 → Figures s)

  is_long : 7679744 < length file → (s : Tally) (left : List ℕ) → Concludes s left
  unfolding structure_of
  is_long h s left =
      let v = by_structure (Refused 1 0) (sym (on_lt _ h refl)) in
      let many : 7679744 < min 7679745 (length file) = omega arith in
      (sym (too_long page s left (min 7679745 (length file)) many refl) ∙ sym v, λ z. absurd (omega (arith, ap (λ (x : Verdict). x.number) v)))

  module _ (short : length file ≤ 7679744) where
    same : min 7679745 (length file) ≡ length file
    same = omega arith

    few : min 7679745 (length file) ≤ 7679744
    few = omega arith

    -- refused at the first record that the walk cannot pass
    is_stuck : (number k : ℕ) (s : Tally) (left : List ℕ) → Stuck file number k
        → conclude_of page s (min 7679745 (length file)) left ≡ refused number k 0 → Concludes s left
    is_stuck number k s left stuck e =
        let v = by_structure (Refused number k) (stuck_found file number k short stuck) in
        (e ∙ sym v, λ z. absurd (stuck.real (sym (ap (λ (x : Verdict). x.number) v) ∙ z)))

    on_stops : (m : Mid) → Stops page cuts (length file) m → Concludes m.tally m.pending
    on_stops m s =
        let low : s.k < 10000 = omega (arith, s.full, place_is (s.k + 1)) in
        let at : stop_at s.k (slot_at file s.k) ≡ fault_in s.k (slot_at file s.k) =
        sym (off_eq {y = fault_in s.k (slot_at file s.k)} 1 (λ (q : s.k ≡ 10000). omega arith) refl) in
        let stop = ap (λ (c : Tally). c.stop) s.tally in
        let next = ap (λ (c : Tally). c.next) s.tally ∙ next_is page cuts s.k in
        is_stuck (fault_in s.k (slot_at file s.k)) s.k m.tally m.pending
        (record { due = s.due; broken = refl; real = λ z. s.broken (at ∙ z) })
        (sym (has_stopped page m.tally m.pending (min 7679745 (length file)) few (λ z. s.broken (sym stop ∙ z)) refl)
        ∙ ap₂ (λ (x y : ℕ). refused x y 0) (stop ∙ at) next)

    on_z : (n : ℕ) → Fit file n → Concludes (tally_at page cuts (n + 1)) (slot_at file (n + 1))
    on_z n f =
        let s = tally_at page cuts (n + 1) in
        let up : suc n ≡ n + 1 = omega arith in
        let right : 0 ≡ fault_in s.next (slot_at file (n + 1)) =
        sym (ap (λ (k : ℕ). fault_in k (slot_at file (n + 1))) (next_is page cuts (n + 1)) ∙ f.right) in
        let v = by_structure (Fits n) (fit_found file n f) in (
          sym (ends_whole page s (slot_at file (n + 1)) (min 7679745 (length file)) few (goes page cuts (n + 1)) right refl refl) ∙ at_z_is n ∙ sym v,
          λ z. (rw up at (number_is page cuts n), rw up at (changes_are page cuts n f)),
        )

    on_runs : (k : ℕ) → Reached file k → record_at k ≤ length file → length file < record_at (k + 1)
        → Concludes (tally_at page cuts k) (slot_at file k)
    on_runs k due low high = go (eqb (fault_in k (slot_at file k)) 0) refl
      where
        left : length (slot_at file k) < width_at k
        left = omega (arith, slot_length file k, place_is k, next_place k)

        next : fault_in k (slot_at file k) ≡ fault_in (tally_at page cuts k).next (slot_at file k)
        next = ap (λ (j : ℕ). fault_in j (slot_at file k)) (sym (next_is page cuts k))

        go : (b : Bool) → eqb (fault_in k (slot_at file k)) 0 ≡ b → Concludes (tally_at page cuts k) (slot_at file k)
        go true e =
            let right = eqb-true _ _ e in
            let ends = ends_in k (slot_at file k) right left in
            let back : k - 1 + 1 ≡ k = omega (arith, ends.later) in
            subst (λ (j : ℕ). Concludes (tally_at page cuts j) (slot_at file j)) back (on_z (k - 1) (fit file short k due right ends.z))
        go false e =
            let n = eqb-false _ _ e in
            is_stuck (fault_in k (slot_at file k)) k (tally_at page cuts k) (slot_at file k) (record { due = due; broken = refl; real = n })
            (sym (ends_broken page (tally_at page cuts k) (slot_at file k) (min 7679745 (length file)) few (goes page cuts k) next n refl)
            ∙ ap (λ (j : ℕ). refused (fault_in k (slot_at file k)) j 0) (next_is page cuts k))

    on_course : (m : Mid) → Course page cuts (length file) m → Concludes m.tally m.pending
    on_course m (fine, inl r) =
        let wide : length file - record_at r.k ≤ width_at r.k = omega (arith, r.high, next_place r.k) in
        let left : m.pending ≡ slot_at file r.k = r.held ∙ slot_short file r.k (record_at r.k) (width_at r.k) refl refl wide in
        subst (λ (n : Mid). Concludes n.tally n.pending) (sym (ap₂ mid r.tally left)) (on_runs r.k r.due r.low r.high)
    on_course m (fine, inr s) = on_stops m s

  concludes : (m : Mid) → Course page cuts (length file) m → Concludes m.tally m.pending
  concludes m c = go (ltb 7679744 (length file)) refl
    where
      go : (b : Bool) → ltb 7679744 (length file) ≡ b → Concludes m.tally m.pending
      go true e = is_long (ltb-true _ _ e) m.tally m.pending
      go false e = on_course (ltb-false 7679744 (length file) e) m c

  -- what a reader finds that has read all of the cuts
  module _ (r : Reader) (all : ReadAll page cuts r) (taken : List ℕ) where
    concluded : Concludes r.tally (pending r)
    concluded =
        let s = all.state in
        subst (λ (n : Mid). Concludes n.tally n.pending) (sym (ap₂ mid s.tally_is s.held_is)) (concludes all.m all.course)

    judged_is : judged_of r ≡ cond (is_page page) (read_verdict page cuts) (refused 7 0 0)
    unfolding judged_of
    judged_is =
        let s = all.state in
        let sane : in_order r.tally r.have ≡ true = in_order_is page cuts (length file) all.m r (omega arith) all.course s in
        rw (s.page_is, s.counted, sane, concluded.0)

    found_is : found_of r taken ≡ reading_of page cuts taken
    unfolding found_of reading_of read_judged
    found_is =
        ap (λ (v : Verdict). or_taken_by v r.tally.number r.tally.changes taken) judged_is
        ∙ go (is_page page) (eqb (read_verdict page cuts).number 0) refl
      where
        found : Verdict
        found = read_verdict page cuts

        whole : Verdict → Answer
        whole v = answered v (cond (eqb v.number 0) (length (notes_of page file)) 0)

        -- a sound file: taken or not
        on_sound : eqb found.number 0 ≡ true → (t : Bool)
            → cond t (answered (refused 50 0 0) 0) (answered found (length (notes_of page file))) ≡ whole (cond t (refused 50 0 0) found)
        on_sound e true = refl
        on_sound e false = ap (λ (b : Bool). answered found (cond b (length (notes_of page file)) 0)) (sym e)

        go : (there fits : Bool) → eqb found.number 0 ≡ fits
            → or_taken_by (cond there found (refused 7 0 0)) r.tally.number r.tally.changes taken
            ≡ whole (cond there (or_taken found file taken) (refused 7 0 0))
        go false fits e = refl
        go true true e =
            let f = concluded.1 (eqb-true _ _ e) in
            rw (e, f.0, f.1) (on_sound e (is_taken taken (file_number (slot_at file 0))))
        go true false e = rw (e, e)

-- the end after any cuts
pub end_is : (page : ℕ) (cuts : List Cut) (taken : List ℕ) → (end_of (fed_all (new_of page) cuts) taken).answer ≡ reading_of page cuts taken
unfolding end_of
end_is page cuts taken =
    let r = fed_all (new_of page) cuts in
    let all = all_read page cuts in
    ap (λ (x : Read). x.answer) (sym (on_eq (read_of r r.answer) all.state.open_still refl)) ∙ found_is page cuts r all taken
