-- Notes put into lent places, one list of notes behind another: of a character, of a text, of the fields of a record.
use Rattle.std.specs.Prelude.{ℕ, ◌+◌, ◌*◌, ◌-◌, ◌≤◌, ◌<◌, ◌≡◌, Bool, true, false, cond, List, [], ◌∷◌, ◌++◌, length, get_or, take, drop, set}
use Rattle.std.proofs.Common.{sym, ap, ◌∙◌, add-zero, add-one, arith, length-append, take-append-drop, take-suc, take-add, length-take-le}
use Rattle.std.proofs.Math.Seq.{take-length}
use Rattle.laws.specs.Steps.{empty}
use Rattle.charset.specs.Table.{unchanged}
use Rattle.forwarding.specs.Put.{put, put_length, put_put, put_none, put_one}
use Rattle.forwarding.specs.Changes.{text_notes, text_append, changed, changes, changes_noted}

-- ns is put from place have on: the places then, and where the next note goes
pub record Noted (ns : List ℕ) (have : ℕ) (places places' : List ℕ) (next : ℕ) : Type 0 where
  pub next_is : next ≡ have + length ns
  pub places_are : places' ≡ put have ns places

pub noted_none : (have : ℕ) (ps : List ℕ) → Noted [] have ps ps have
noted_none have ps = record { next_is = sym (add-zero have); places_are = sym (put_none have ps) }

pub noted_is : {xs ys : List ℕ} {have : ℕ} {ps ps' : List ℕ} {n : ℕ} → xs ≡ ys → Noted xs have ps ps' n → Noted ys have ps ps' n
noted_is e h = rw e at h

pub noted_length : {xs : List ℕ} {have : ℕ} {ps ps' : List ℕ} {n : ℕ} → Noted xs have ps ps' n → have + length xs ≤ length ps
    → length ps' ≡ length ps
noted_length {xs} {have} {ps} h fits = ap length h.places_are ∙ put_length have xs ps fits

pub noted_append : {xs ys : List ℕ} {have : ℕ} {ps ps' ps'' : List ℕ} {n m : ℕ} → Noted xs have ps ps' n → Noted ys n ps' ps'' m
    → have + length xs ≤ length ps → Noted (xs ++ ys) have ps ps'' m
noted_append {xs} {ys} {have} {ps} h k fits =
    record {
      next_is = omega (arith, h.next_is, k.next_is, length-append xs ys);
      places_are = k.places_are ∙ rw (h.places_are, h.next_is) (put_put have xs ps fits ys);
    }

-- of a character; `by` is 1 where it is changed
module _ (place b have : ℕ) (ps : List ℕ) {by : ℕ} (e : by ≡ changed b) where
  pub kept_noted : (by ≡ 1 → ⊥) → Noted (text_notes place (b ∷ [])) have ps ps (have + by)
  kept_noted h = go (unchanged b) e
    where
      go : (kept : Bool) → by ≡ cond kept 0 1 → Noted (cond kept [] ((place * 256 + b) ∷ [])) have ps ps (have + by)
      go true e = record { next_is = omega arith; places_are = sym (put_none have ps) }
      go false e = absurd (h e)

  pub change_noted : (v : ℕ) → by ≡ 1 → have < length ps → v ≡ place * 256 + b
      → Noted (text_notes place (b ∷ [])) have ps (set ps have v) (have + by)
  change_noted v is h q = go (unchanged b) e
    where
      go : (kept : Bool) → by ≡ cond kept 0 1 → Noted (cond kept [] ((place * 256 + b) ∷ [])) have ps (set ps have v) (have + by)
      go true e = absurd (omega arith)
      go false e = rw q (record { next_is = omega arith; places_are = put_one have (place * 256 + b) ps h })

  pub change_room : by ≡ 1 → have + length (text_notes place (b ∷ [])) ≤ length ps → have < length ps
  change_room is h = go (unchanged b) e h
    where
      go : (kept : Bool) → by ≡ cond kept 0 1 → have + length (cond kept [] ((place * 256 + b) ∷ [])) ≤ length ps → have < length ps
      go true e h = absurd (omega arith)
      go false e h = omega arith

-- the notes of the first n characters of a text, and of its character i
abbrev pub first_notes : ℕ → ℕ → List ℕ → List ℕ
first_notes place n s = text_notes place (take n s)

abbrev pub note_at : ℕ → ℕ → List ℕ → List ℕ
note_at place i s = text_notes (place + i) (get_or s i 0 ∷ [])

-- of more characters xs behind the first i, up to the first j; the places have room for the notes of the first n
module _ (place i j : ℕ) (s xs : List ℕ) (h : i ≤ length s) (e : take j s ≡ take i s ++ xs) where
  more : first_notes place j s ≡ first_notes place i s ++ text_notes (place + i) xs
  more =
      ap (text_notes place) e ∙ text_append place (take i s) xs
      ∙ ap (λ (n : ℕ). first_notes place i s ++ text_notes (place + n) xs) (length-take-le i s h)

  pub more_fit : (n : ℕ) → j ≤ n → length (first_notes place i s) + length (text_notes (place + i) xs) ≤ length (first_notes place n s)
  more_fit n l =
      let rest = text_notes (place + length (take j s)) (take (n - j) (drop j s)) in
      let z : n ≡ j + (n - j) = omega arith in
      let all : first_notes place n s ≡ first_notes place i s ++ text_notes (place + i) xs ++ rest =
      ap (text_notes place) (ap (λ (k : ℕ). take k s) z ∙ take-add j (n - j) s) ∙ text_append place (take j s) (take (n - j) (drop j s))
      ∙ ap (λ (l : List ℕ). l ++ rest) more in
      omega (arith, ap length all, length-append (first_notes place i s ++ text_notes (place + i) xs) rest, length-append (first_notes place i s) (text_notes (place + i) xs))

  pub more_noted : (n : ℕ) → j ≤ n → {have : ℕ} {ps ps' ps'' : List ℕ} {m k : ℕ} → have + length (first_notes place n s) ≤ length ps
      → Noted (first_notes place i s) have ps ps' m → Noted (text_notes (place + i) xs) m ps' ps'' k
      → Noted (first_notes place j s) have ps ps'' k
  more_noted n l fits u v = noted_is (sym more) (noted_append u v (omega (arith, more_fit n l)))

-- of one more
module _ (place i : ℕ) (s : List ℕ) (h : i < length s) where
  one_more : take (i + 1) s ≡ take i s ++ (get_or s i 0 ∷ [])
  one_more = rw (add-one i) (take-suc s i 0 h)

  all : first_notes place (length s) s ≡ text_notes place s
  all = ap (text_notes place) (take-length s)

  pub one_fits : length (first_notes place i s) + length (note_at place i s) ≤ length (text_notes place s)
  one_fits = rw all at (more_fit place i (i + 1) s (get_or s i 0 ∷ []) (omega arith) one_more (length s) (omega arith))

  pub one_noted : {have : ℕ} {ps ps' ps'' : List ℕ} {n m : ℕ} → have + length (text_notes place s) ≤ length ps
      → Noted (first_notes place i s) have ps ps' n → Noted (note_at place i s) n ps' ps'' m
      → Noted (first_notes place (i + 1) s) have ps ps'' m
  one_noted fits u v =
      more_noted place i (i + 1) s (get_or s i 0 ∷ []) (omega arith) one_more (length s) (omega arith)
      (omega (arith, ap length all)) u v

-- a text with no change has no notes, and nor have its first characters
pub unchanged_noted : (place n : ℕ) (s : List ℕ) (have : ℕ) (ps : List ℕ) → changes s ≡ 0 → Noted (first_notes place n s) have ps ps have
unchanged_noted place n s have ps e = noted_is (sym (empty (first_notes place n s) few)) (noted_none have ps)
  where
    rest : List ℕ
    rest = text_notes (place + length (take n s)) (drop n s)

    whole : text_notes place s ≡ first_notes place n s ++ rest
    whole = ap (text_notes place) (sym (take-append-drop n s)) ∙ text_append place (take n s) (drop n s)

    few : length (first_notes place n s) ≡ 0
    few = omega (arith, changes_noted place s, ap length whole, length-append (first_notes place n s) rest)
