-- The text fields of a record. Its notes are those of its fields, one field after the other; and to replace its fields, one
-- after the other and each where it stands, is to forward it. The fields ss are any that follow one another.
use Rattle.std.specs.Prelude.{ℕ, ◌+◌, ◌-◌, ◌≤◌, ◌<◌, ◌≡◌, refl, Bool, true, false, ◌&&◌, ◌||◌, leb, ltb, take}
use Rattle.std.proofs.Common.{sym, ap₂, ◌∙◌, add-zero, leb-true, le-leb, lt-ltb, le-ltb, lit≤, length-append, take-append-drop, length-take-le, take_at, drop_at}
use Rattle.std.proofs.Math.Path.{ap}
use Rattle.std.proofs.lemmas.Bool.{false≢true, lt-leb}
use mathlib.Core.List.{List, [], ◌∷◌, ◌++◌, map, append-nil, append_assoc}
use native.Mathlib.Omega.{arith}
use Rattle.std.proofs.Math.ListN.{length, drop}
use Rattle.laws.specs.Steps.{empty}
use Rattle.charset.specs.Table.{rep, rep_rep, text}
use Rattle.records.specs.Places.{part}
use Rattle.records.specs.Inside.{part_le}
use Rattle.records.specs.declared.Span.{Span}
use Rattle.forwarding.specs.Between.{between, between_long, between_rest, between_more}
use Rattle.forwarding.specs.Text.{q_texts, t_texts, lies}
use Rattle.forwarding.specs.Forwarded.{fwd, notes}
use Rattle.forwarding.specs.Parts.{never, always, fwd_never, notes_never, fwd_always, fwd_length, fwd_append, notes_append, fwd_same, notes_same, fwd_fwd}
use Rattle.forwarding.specs.Changes.{text_notes, text_notes_are, changes, changes_noted, changes_append, changes_few, unchanged_text, unchanged_fwd}

-- the notes of the fields of a record that stands at place a, and how many they are
abbrev pub field_notes : List Span → ℕ → List ℕ → List ℕ
field_notes [] a rec = []
field_notes (s ∷ ss) a rec = text_notes (a + s.start) (part s rec) ++ field_notes ss a rec

abbrev pub field_changes : List Span → List ℕ → ℕ
field_changes [] rec = 0
field_changes (s ∷ ss) rec = changes (part s rec) + field_changes ss rec

pub field_count : (ss : List Span) (a : ℕ) (rec : List ℕ) → field_changes ss rec ≡ length (field_notes ss a rec)
field_count [] a rec = refl
field_count (s ∷ ss) a rec =
    ap₂ ◌+◌ (changes_noted (a + s.start) (part s rec)) (field_count ss a rec)
    ∙ sym (length-append (text_notes (a + s.start) (part s rec)) (field_notes ss a rec))

-- no record has more changes than characters of text
abbrev spread : List Span → ℕ
spread [] = 0
spread (s ∷ ss) = (s.end - s.start) + spread ss

few : (ss : List Span) (rec : List ℕ) → field_changes ss rec ≤ spread ss
few [] rec = lit≤ tt
few (s ∷ ss) rec = omega (arith, few ss rec, changes_few (part s rec), part_le s rec)

pub q_most : (rec : List ℕ) → field_changes q_texts rec ≤ 140
q_most rec = few q_texts rec

pub t_most : (rec : List ℕ) → field_changes t_texts rec ≤ 553
t_most rec = few t_texts rec

-- nor more than bytes
pub q_few : (rec : List ℕ) → field_changes q_texts rec ≤ 768
q_few rec = omega (arith, few q_texts rec)

pub t_few : (rec : List ℕ) → field_changes t_texts rec ≤ 768
t_few rec = omega (arith, few t_texts rec)

-- fields and then more fields
pub notes_more : (ss us : List Span) (a : ℕ) (rec : List ℕ) → field_notes (ss ++ us) a rec ≡ field_notes ss a rec ++ field_notes us a rec
notes_more [] us a rec = refl
notes_more (s ∷ ss) us a rec =
    let x = text_notes (a + s.start) (part s rec) in
    ap (λ (l : List ℕ). x ++ l) (notes_more ss us a rec) ∙ sym (append_assoc x (field_notes ss a rec) (field_notes us a rec))

pub changes_more : (ss us : List Span) (rec : List ℕ) → field_changes (ss ++ us) rec ≡ field_changes ss rec + field_changes us rec
changes_more [] us rec = omega arith
changes_more (s ∷ ss) us rec = omega (arith, changes_more ss us rec)

lies_more : (ss us : List Span) (i : ℕ) → lies (ss ++ us) i ≡ lies ss i || lies us i
lies_more [] us i = refl
lies_more (s ∷ ss) us i = rw (lies_more ss us i) (go (leb s.start i && ltb i s.end))
  where
    go : (here : Bool) → here || (lies ss i || lies us i) ≡ here || lies ss i || lies us i
    go true = refl
    go false = refl

-- before, in and behind the first field
module _ (s : Span) (ss : List Span) (i : ℕ) where
  pub lies_before : i < s.start → lies (s ∷ ss) i ≡ lies ss i
  lies_before h = rw (lt-leb s.start i h)

  pub lies_in : s.start ≤ i → i < s.end → lies (s ∷ ss) i ≡ true
  lies_in h l = rw (le-leb s.start i h, lt-ltb i s.end l)

  pub lies_behind : s.end ≤ i → lies (s ∷ ss) i ≡ lies ss i
  lies_behind h = rw (le-ltb i s.end h) (go (leb s.start i))
    where
      go : (b : Bool) → b && false || lies ss i ≡ lies ss i
      go true = refl
      go false = refl

-- fields that follow one another, from lo to hi
abbrev pub rising : ℕ → ℕ → List Span → Bool
rising lo hi [] = leb lo hi
rising lo hi (s ∷ ss) = leb lo s.start && leb s.start s.end && rising s.end hi ss

record Rises (lo hi : ℕ) (s : Span) (ss : List Span) : Type 0 where
  first : lo ≤ s.start
  last : s.start ≤ s.end
  more : rising s.end hi ss ≡ true

rises : {lo hi : ℕ} (s : Span) (ss : List Span) → rising lo hi (s ∷ ss) ≡ true → Rises lo hi s ss
rises {lo} {hi} s ss e = go (leb lo s.start) (leb s.start s.end) refl refl e
  where
    go : (a b : Bool) → leb lo s.start ≡ a → leb s.start s.end ≡ b → a && b && rising s.end hi ss ≡ true → Rises lo hi s ss
    go true true p q e = record { first = leb-true _ _ p; last = leb-true _ _ q; more = e }
    go true false p q e = absurd (false≢true e)
    go false b p q e = absurd (false≢true e)

rises_to : (lo hi : ℕ) (ss : List Span) → rising lo hi ss ≡ true → lo ≤ hi
rises_to lo hi [] e = leb-true lo hi e
rises_to lo hi (s ∷ ss) e =
    let o = rises s ss e in
    omega (arith, o.first, o.last, rises_to s.end hi ss o.more)

none_before : (lo hi : ℕ) (ss : List Span) (i : ℕ) → rising lo hi ss ≡ true → i < lo → lies ss i ≡ false
none_before lo hi [] i e h = refl
none_before lo hi (s ∷ ss) i e h =
    let o = rises s ss e in
    lies_before s ss i (omega (arith, o.first)) ∙ none_before s.end hi ss i o.more (omega (arith, o.first, o.last))

-- the places of a record that stands at a
abbrev pub lies_from : ℕ → List Span → ℕ → Bool
lies_from a ss i = lies ss (i - a)

module _ (page : ℕ) (a : ℕ) (rec : List ℕ) where
  -- from offset lo on
  notes_from : (ss : List Span) (lo : ℕ) → rising lo (length rec) ss ≡ true
      → notes (rep page) (lies_from a ss) (a + lo) (drop lo rec) ≡ field_notes ss a rec
  unfolding part
  notes_from [] lo e =
      notes_same (rep page) (lies_from a []) never (a + lo) (drop lo rec) (λ k p q. refl) ∙ notes_never (rep page) (a + lo) (drop lo rec)
  notes_from (s ∷ ss) lo e =
      let o = rises s ss e in
      let first = o.first in
      let last = o.last in
      let end = rises_to s.end (length rec) ss o.more in
      let t = lies_from a (s ∷ ss) in
      let gap = between lo s.start rec in
      let field = between s.start s.end rec in
      let rest = drop s.end rec in
      let gap-long = between_long lo s.start rec (omega arith) in
      let field_long = between_long s.start s.end rec end in
      let to_field : a + lo + length gap ≡ a + s.start = omega arith in
      let to_rest : a + s.start + length field ≡ a + s.end = omega arith in
      let of_gap : notes (rep page) t (a + lo) gap ≡ [] =
      notes_same (rep page) t never (a + lo) gap
      (λ k p q. lies_before s ss (k - a) (omega arith) ∙ none_before s.end (length rec) ss (k - a) o.more (omega arith))
      ∙ notes_never (rep page) (a + lo) gap in
      let of_field : notes (rep page) t (a + s.start) field ≡ text_notes (a + s.start) field =
      notes_same (rep page) t always (a + s.start) field (λ k p q. lies_in s ss (k - a) (omega arith) (omega arith))
      ∙ text_notes_are page (a + s.start) field in
      let of_rest : notes (rep page) t (a + s.end) rest ≡ field_notes ss a rec =
      notes_same (rep page) t (lies_from a ss) (a + s.end) rest (λ k p q. lies_behind s ss (k - a) (omega arith))
      ∙ notes_from ss s.end o.more in
      ap (notes (rep page) t (a + lo)) (between_rest lo s.start rec first ∙ ap (λ (l : List ℕ). gap ++ l) (between_rest s.start s.end rec last))
      ∙ notes_append (rep page) t (a + lo) gap (field ++ rest)
      ∙ rw (of_gap, to_field) (notes_append (rep page) t (a + s.start) field rest ∙ rw (to_rest, of_field, of_rest))

  pub record_notes : (ss : List Span) → rising 0 (length rec) ss ≡ true → notes (rep page) (lies_from a ss) a rec ≡ field_notes ss a rec
  record_notes ss e = rw add-zero at (notes_from ss 0 e)

-- one field replaced where it stands: front, field and rest of the record
field_there : (r : ℕ → ℕ) (s : Span) (xs : List ℕ) → s.start ≤ s.end → s.end ≤ length xs
    → take s.start xs ++ (map r (between s.start s.end xs) ++ drop (s.end - s.start) (drop s.start xs)) ≡ fwd r (lies (s ∷ [])) 0 xs
field_there r s xs h l =
    let t = lies (s ∷ []) in
    let front = take s.start xs in
    let field = between s.start s.end xs in
    let rest = drop (s.end - s.start) (drop s.start xs) in
    let front_long : length front ≡ s.start = length-take-le s.start xs (omega arith) in
    let field_long : length field ≡ s.end - s.start = between_long s.start s.end xs l in
    let of_front : fwd r t 0 front ≡ front =
    fwd_same r t never 0 front (λ k p q. lies_before s [] k (omega arith)) ∙ fwd_never r 0 front in
    let of_field : fwd r t (0 + length front) field ≡ map r field =
    fwd_same r t always (0 + length front) field (λ k p q. lies_in s [] k (omega arith) (omega arith)) ∙ fwd_always r (0 + length front) field in
    let of_rest : fwd r t (0 + length front + length field) rest ≡ rest =
    fwd_same r t never (0 + length front + length field) rest (λ k p q. lies_behind s [] k (omega arith)) ∙ fwd_never r (0 + length front + length field) rest in
    let whole : xs ≡ front ++ (field ++ rest) = simp take-append-drop in
    sym
    (ap (fwd r t 0) whole ∙ fwd_append r t 0 front (field ++ rest)
    ∙ ap₂ ◌++◌ of_front (fwd_append r t (0 + length front) field rest ∙ ap₂ ◌++◌ of_field of_rest))

-- the fields ss are replaced, and then one more
pub field_more : (page : ℕ) (ss : List Span) (s : Span) (rec xs ys : List ℕ) → s.start ≤ s.end → s.end ≤ length xs
    → xs ≡ fwd (rep page) (lies ss) 0 rec → ys ≡ text page (between s.start s.end xs)
    → take s.start xs ++ (ys ++ drop (s.end - s.start) (drop s.start xs)) ≡ fwd (rep page) (lies (ss ++ (s ∷ []))) 0 rec
field_more page ss s rec xs ys h l e f =
    ap (λ (l : List ℕ). take s.start xs ++ (l ++ drop (s.end - s.start) (drop s.start xs))) f
    ∙ field_there (rep page) s xs h l
    ∙ ap (fwd (rep page) (lies (s ∷ [])) 0) e
    ∙ fwd_fwd (rep page) (rep_rep page) (lies ss) (lies (s ∷ [])) 0 rec
    ∙ fwd_same (rep page) (λ k. lies ss k || lies (s ∷ []) k) (lies (ss ++ (s ∷ []))) 0 rec (λ k p q. sym (lies_more ss (s ∷ []) k))

-- the bytes between two places of what is forwarded
fwd_between : (r : ℕ → ℕ) (t : ℕ → Bool) (a e : ℕ) (xs : List ℕ) → a ≤ e → e ≤ length xs
    → between a e (fwd r t 0 xs) ≡ fwd r t a (between a e xs)
fwd_between r t a e xs h l =
    let front = take a xs in
    let field = between a e xs in
    let rest = drop e xs in
    let front_long : length front ≡ a = length-take-le a xs (omega arith) in
    let to_a : 0 + length front ≡ a = omega arith in
    let field_long : length field ≡ e - a = between_long a e xs l in
    let from_a : drop a (fwd r t 0 xs) ≡ fwd r t a (drop a xs) =
    ap (λ (l : List ℕ). drop a (fwd r t 0 l)) (sym (take-append-drop a xs))
    ∙ ap (drop a) (fwd_append r t 0 front (drop a xs))
    ∙ drop_at (fwd r t 0 front) (fwd r t (0 + length front) (drop a xs)) a (fwd_length r t 0 front ∙ front_long)
    ∙ ap (λ (k : ℕ). fwd r t k (drop a xs)) to_a in
    ap (take (e - a)) (from_a ∙ ap (fwd r t a) (between_rest a e xs h) ∙ fwd_append r t a field rest)
    ∙ take_at (fwd r t a field) (fwd r t (a + length field) rest) (e - a) (fwd_length r t a field ∙ field_long)

-- the fields ss are replaced, and one more has nothing to replace
pub field_kept : (page : ℕ) (ss : List Span) (s : Span) (rec xs : List ℕ) → s.start ≤ s.end → s.end ≤ length rec
    → xs ≡ fwd (rep page) (lies ss) 0 rec → changes (between s.start s.end rec) ≡ 0
    → xs ≡ fwd (rep page) (lies (ss ++ (s ∷ []))) 0 rec
field_kept page ss s rec xs h l e none =
    let a = s.start in
    let z = s.end in
    let here : between a z xs ≡ between a z rec =
    ap (between a z) e ∙ fwd_between (rep page) (lies ss) a z rec h l ∙ unchanged_fwd page (lies ss) a (between a z rec) none in
    let same : between a z xs ≡ text page (between a z xs) =
    here ∙ sym (unchanged_text page (between a z rec) none) ∙ ap (text page) (sym here) in
    let long : length xs ≡ length rec = ap length e ∙ fwd_length (rep page) (lies ss) 0 rec in
    let whole : xs ≡ take a xs ++ (between a z xs ++ drop (z - a) (drop a xs)) = simp take-append-drop in
    whole ∙ field_more page ss s rec xs (between a z xs) h (omega arith) e same

-- where nothing changes, a field that lies there has no change, and nor has the rest behind it
apart : (lo hi : ℕ) (s : Span) (ss : List Span) (rec : List ℕ) → rising lo hi (s ∷ ss) ≡ true → changes (between lo hi rec) ≡ 0
    → (changes (between s.start s.end rec) ≡ 0) × (changes (between s.end hi rec) ≡ 0)
apart lo hi s ss rec e none =
    let o = rises s ss e in
    let end = rises_to s.end hi ss o.more in
    let gap = between lo s.start rec in
    let field = between s.start s.end rec in
    let rest = between s.end hi rec in
    let whole : between lo hi rec ≡ gap ++ (field ++ rest) =
    between_more lo s.start rec o.first hi (omega (arith, o.last))
    ∙ ap (λ (l : List ℕ). gap ++ l) (between_more s.start s.end rec o.last hi end) in
    let sum = ap changes whole ∙ changes_append gap (field ++ rest) in
    let two = changes_append field rest in
    (omega (arith, sum, two), omega (arith, sum, two))

-- so fields that lie where nothing changes have no change
pub none_within : (lo hi : ℕ) (ss : List Span) (rec : List ℕ) → rising lo hi ss ≡ true → changes (between lo hi rec) ≡ 0
    → field_changes ss rec ≡ 0
unfolding part
none_within lo hi [] rec e none = refl
none_within lo hi (s ∷ ss) rec e none =
    let both = apart lo hi s ss rec e none in
    omega (arith, both.0, none_within s.end hi ss rec (rises s ss e).more both.1)

pub no_notes : (ss : List Span) (a : ℕ) (rec : List ℕ) → field_changes ss rec ≡ 0 → field_notes ss a rec ≡ []
no_notes ss a rec e = empty (field_notes ss a rec) (sym (field_count ss a rec) ∙ e)

-- and are forwarded as they are, whichever were replaced before
pub fields_kept : (page : ℕ) (ss us : List Span) (lo hi : ℕ) (rec xs : List ℕ) → rising lo hi us ≡ true → hi ≤ length rec
    → changes (between lo hi rec) ≡ 0 → xs ≡ fwd (rep page) (lies ss) 0 rec → xs ≡ fwd (rep page) (lies (ss ++ us)) 0 rec
fields_kept page ss [] lo hi rec xs e l none so_far = so_far ∙ ap (λ (ts : List Span). fwd (rep page) (lies ts) 0 rec) (sym (append-nil ss))
fields_kept page ss (s ∷ us) lo hi rec xs e l none so_far =
    let o = rises s us e in
    let end = rises_to s.end hi us o.more in
    let both = apart lo hi s us rec e none in
    fields_kept page (ss ++ (s ∷ [])) us s.end hi rec xs o.more l both.1
    (field_kept page ss s rec xs o.last (omega arith) so_far both.0)
    ∙ ap (λ (ts : List Span). fwd (rep page) (lies ts) 0 rec) (append_assoc ss (s ∷ []) us)
