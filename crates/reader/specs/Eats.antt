-- Laws of feeding: any cuts, a stopped walk, a short piece, a whole record.
use Rattle.std.proofs.Common.{ℕ, ◌+◌, ◌-◌, ◌≤◌, ◌<◌, ◌≡◌, cond, length, take, drop, ltb, ltb-true, eqb, refl, ap, Bool, false, not, List, [], ◌∷◌, ◌++◌, append-nil, append_assoc, sym, ◌∙◌, arith, length-append, length-take, length-drop, take-append-drop, drop-drop, take_all}
use Rattle.std.proofs.lemmas.Bool.{not-false}
use Rattle.std.proofs.lemmas.Bool.Decides.{nat_tests}
use Rattle.laws.specs.Choice.{on_eq, off_eq, both}
use Rattle.structure.specs.Slots.{width_at}
use Rattle.forwarding.specs.Put.{put, put_none, put_put_at}
use Rattle.tally.specs.declared.Tally.{Tally}
use Rattle.tally.specs.Settle.{settle_of, is_steady, Steady, steady}
use Rattle.reader.specs.declared.Reader.{Reader}
use Rattle.reader.specs.State.{Mid, mid, push, eat, pending, view, packed, in_order}

pub width_le : (k : ℕ) → width_at k ≤ 768
width_le k = grind (arith, nat_tests)

pub width_pos : (k : ℕ) → 0 < width_at k
width_pos k = grind (arith, nat_tests)

length_snoc : (p : List ℕ) (x : ℕ) → length (p ++ (x ∷ [])) ≡ length p + 1
length_snoc p x = length-append p (x ∷ [])

module _ (page : ℕ) (t ch : List ℕ) where
  pub eat_append : (m : Mid) (xs ys : List ℕ) → eat page t ch m (xs ++ ys) ≡ eat page t ch (eat page t ch m xs) ys
  unfolding eat
  eat_append m [] ys = refl
  eat_append m (x ∷ xs) ys = eat_append (push page t ch m x) xs ys

  pub eat_stopped : (m : Mid) → (m.tally.stop ≡ 0 → ⊥) → (xs : List ℕ) → eat page t ch m xs ≡ m
  unfolding eat
  eat_stopped m h [] = refl
  eat_stopped m h (x ∷ xs) = ap (λ (n : Mid). eat page t ch n xs) (sym (off_eq {y = m} _ h refl)) ∙ eat_stopped m h xs

  module _ (c : Tally) (run : c.stop ≡ 0) where
    adds : (p : List ℕ) (x : ℕ) → length p + 1 < width_at c.next → push page t ch (mid c p) x ≡ mid c (p ++ (x ∷ []))
    adds p x h = sym (on_eq (mid c p) run (off_eq _ (λ (q : length p + 1 ≡ width_at c.next). omega arith) refl))

    fills : (p : List ℕ) (x : ℕ) → length p + 1 ≡ width_at c.next
        → push page t ch (mid c p) x ≡ mid (settle_of page t ch c (p ++ (x ∷ []))) []
    fills p x h = sym (on_eq (mid c p) run (on_eq (mid c (p ++ (x ∷ []))) h refl))

    pub eat_short : (p xs : List ℕ) → length p + length xs < width_at c.next → eat page t ch (mid c p) xs ≡ mid c (p ++ xs)
    unfolding eat
    eat_short p [] h = ap (mid c) (sym (append-nil p))
    eat_short p (x ∷ xs) h =
        ap (λ (n : Mid). eat page t ch n xs) (adds p x (omega arith))
        ∙ eat_short (p ++ (x ∷ [])) xs (omega (arith, length_snoc p x)) ∙ ap (mid c) (append_assoc p (x ∷ []) xs)

    eat_full : (p xs : List ℕ) → 0 < length xs → length p + length xs ≡ width_at c.next
        → eat page t ch (mid c p) xs ≡ mid (settle_of page t ch c (p ++ xs)) []
    unfolding eat
    eat_full p [] z h = absurd (omega arith)
    eat_full p (x ∷ []) z h = fills p x h
    eat_full p (x ∷ (y ∷ ys)) z h =
        ap (λ (n : Mid). eat page t ch n (y ∷ ys)) (adds p x (omega arith))
        ∙ eat_full (p ++ (x ∷ [])) (y ∷ ys) (omega arith) (omega (arith, length_snoc p x))
        ∙ ap (λ (r : List ℕ). mid (settle_of page t ch c r) []) (append_assoc p (x ∷ []) (y ∷ ys))

    pub eat_slot : (p xs ys : List ℕ) → 0 < length xs → length p + length xs ≡ width_at c.next
        → eat page t ch (mid c p) (xs ++ ys) ≡ eat page t ch (mid (settle_of page t ch c (p ++ xs)) []) ys
    eat_slot p xs ys z h = eat_append (mid c p) xs ys ∙ ap (λ (n : Mid). eat page t ch n ys) (eat_full p xs z h)

  -- a whole record of a cut
  pub turn : (c : Tally) (cut : List ℕ) (i w : ℕ) → c.stop ≡ 0 → w ≡ width_at c.next → i + w ≤ length cut
      → eat page t ch (mid c []) (drop i cut) ≡ eat page t ch (mid (settle_of page t ch c (take (i + w - i) (drop i cut))) []) (drop (i + w) cut)
  turn c cut i w z e h =
      let l = length-drop i cut in
      let j : i + w - i ≡ w = omega arith in
      rw (j, ← drop-drop w i cut)
      (ap (eat page t ch (mid c [])) (sym (take-append-drop w (drop i cut)))
      ∙ eat_slot c z [] (take w (drop i cut)) (drop w (drop i cut)) (omega (arith, width_pos c.next, length-take w (drop i cut)))
      (omega (arith, length-take w (drop i cut))))

-- the width of the next slot where the bytes left fill it, or 0
abbrev pub ready_of : ℕ → ℕ → ℕ → ℕ
ready_of stop next left = cond (eqb stop 0) (cond (ltb left (width_at next)) 0 (width_at next)) 0

module _ (stop k left w : ℕ) (e : w ≡ ready_of stop k left) where
  pub ready_go : (w ≡ 0 → ⊥) → (stop ≡ 0) × (w ≡ width_at k)
  ready_go h = grind (arith, nat_tests)

  pub ready_none : w ≡ 0 → stop ≡ 0 → left < width_at k
  ready_none h z = grind (arith, nat_tests)

  pub ready_le : w ≤ left
  ready_le = grind (arith, nat_tests)

-- of a cut, from the start of a record on: the records up to place `at` were settled, and no more lie whole in it
pub record Ate (page : ℕ) (transfer cheque : List ℕ) (first : Tally) (cut : List ℕ) (tally : Tally) (at : ℕ) : Type 0 where
  pub within : at ≤ length cut
  pub same : eat page transfer cheque (mid first []) cut ≡ eat page transfer cheque (mid tally []) (drop at cut)
  pub short : tally.stop ≡ 0 → length cut - at < width_at tally.next

module _ (r : Reader) (long : length r.held ≡ 768) (low : r.have ≤ 768) where
  pub pending_long : length (pending r) ≡ r.have
  pending_long = length-take r.have r.held ∙ omega arith

  -- the state as it was
  pub as_held : put 0 (pending r) r.held ≡ r.held
  as_held =
      let z : 0 + length (pending r) ≡ r.have = omega (arith, pending_long) in
      rw z (take-append-drop r.have r.held)

  pub stays : r ≡ packed r (view r)
  stays i =
      record {
        page = r.page;
        ended = r.ended;
        bytes = r.bytes;
        tally = r.tally;
        answer = r.answer;
        have = sym pending_long i;
        held = sym as_held i;
      }

  -- bytes that do not fill the slot
  pub holds : (cut : List ℕ) → r.have + length cut ≤ 768 → put r.have cut r.held ≡ put 0 (pending r ++ cut) r.held
  holds cut h =
      let z : 0 + r.have ≡ r.have = omega arith in
      ap (put r.have cut) (sym as_held)
      ∙ rw z at (put_put_at 0 r.have (pending r) cut r.held pending_long (omega arith))

-- a record across cuts: nothing of it was held, or its head was
pub no_more : (have : ℕ) (held head : List ℕ) → have ≡ 0 → head ≡ take have held ++ head
no_more have held head z = rw z

-- a state in order: the sums fit, and the unfinished record does not fill its slot
pub record Ordered (r : Reader) : Type 0 where
  pub fine : Steady r.tally
  pub short : r.have < width_at r.tally.next
  pub fits : r.have ≤ 768

pub ordered : (r : Reader) {b : Bool} → b ≡ in_order r.tally r.have → not b ≡ false → Ordered r
ordered r e n =
    let h = both (is_steady r.tally) (ltb r.have (width_at r.tally.next)) (sym e ∙ not-false _ n) in
    let l = ltb-true r.have (width_at r.tally.next) h.1 in
    record { fine = steady r.tally h.0; short = l; fits = omega (arith, width_le r.tally.next) }

-- the rest of a cut, from the start of a record on
module _ {page : ℕ} (t ch : List ℕ) (r : Reader) (first : Tally) (cut : List ℕ) {tally : Tally} {at : ℕ}
    (ate : Ate page t ch first cut tally at) where
  pub rest_stopped : (tally.stop ≡ 0 → ⊥)
      → record { page = r.page; ended = r.ended; bytes = r.bytes; tally = tally; answer = r.answer; have = 0; held = r.held }
      ≡ packed r (eat page t ch (mid first []) cut)
  rest_stopped n =
      (λ i. record {
        page = r.page;
        ended = r.ended;
        bytes = r.bytes;
        tally = tally;
        answer = r.answer;
        have = 0;
        held = sym (put_none 0 r.held) i;
      })
      ∙ ap (packed r) (sym (ate.same ∙ eat_stopped page t ch (mid tally []) n (drop at cut)))

  pub rest_held : {held : List ℕ} → tally.stop ≡ 0 → held ≡ put 0 (take (length cut - at) (drop at cut)) r.held
      → record { page = r.page; ended = r.ended; bytes = r.bytes; tally = tally; answer = r.answer; have = length cut - at; held = held }
      ≡ packed r (eat page t ch (mid first []) cut)
  rest_held {held} z e =
      let l = length-drop at cut in
      let all : take (length cut - at) (drop at cut) ≡ drop at cut = take_all (length cut - at) (drop at cut) (omega arith) in
      (λ i. record {
        page = r.page;
        ended = r.ended;
        bytes = r.bytes;
        tally = tally;
        answer = r.answer;
        have = sym l i;
        held = (e ∙ ap (λ (xs : List ℕ). put 0 xs r.held) all) i;
      })
      ∙ ap (packed r) (sym (ate.same ∙ eat_short page t ch tally z [] (drop at cut) (omega (arith, ate.short z))))

-- a cut, by the ways through the code
module _ (page : ℕ) (t ch : List ℕ) (r : Reader) (long : length r.held ≡ 768) (low : r.have ≤ 768) (cut : List ℕ) where
  pub eats_stopped : (r.tally.stop ≡ 0 → ⊥) → r ≡ packed r (eat page t ch (view r) cut)
  eats_stopped n = stays r long low ∙ ap (packed r) (sym (eat_stopped page t ch (view r) n cut))

  pub eats_held : {held : List ℕ} → r.tally.stop ≡ 0 → r.have + length cut < width_at r.tally.next → held ≡ put r.have cut r.held
      → record { page = r.page; ended = r.ended; bytes = r.bytes; tally = r.tally; answer = r.answer; have = r.have + length cut; held = held }
      ≡ packed r (eat page t ch (view r) cut)
  eats_held {held} z h e =
      let l = pending_long r long low in
      let w = width_le r.tally.next in
      (λ i. record {
        page = r.page;
        ended = r.ended;
        bytes = r.bytes;
        tally = r.tally;
        answer = r.answer;
        have = sym (length-append (pending r) cut ∙ ap (λ (n : ℕ). n + length cut) l) i;
        held = (e ∙ holds r long low cut (omega arith)) i;
      })
      ∙ ap (packed r) (sym (eat_short page t ch r.tally z (pending r) cut (omega arith)))

  pub eats_full : {first : Tally} {need : ℕ} {next : Reader} → r.tally.stop ≡ 0 → r.have + need ≡ width_at r.tally.next
      → need ≤ length cut → 0 < need → first ≡ settle_of page t ch r.tally (pending r ++ take need cut)
      → next ≡ packed r (eat page t ch (mid first []) (drop need cut)) → next ≡ packed r (eat page t ch (view r) cut)
  eats_full {first} {need} {next} z h l pos f e =
      e
      ∙ ap (packed r)
      (ap (λ (c : Tally). eat page t ch (mid c []) (drop need cut)) f
      ∙ sym
      (eat_slot page t ch r.tally z (pending r) (take need cut) (drop need cut) (omega (arith, length-take need cut))
      (omega (arith, length-take need cut, pending_long r long low)))
      ∙ ap (eat page t ch (view r)) (take-append-drop need cut))
