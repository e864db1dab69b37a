-- Restoring note by note. The definition of forwarding/Merge reads byte by byte; the code asks each note alone, and puts
-- each note's byte at its place. The laws: a pair is accepted where nothing is left to replace and each note fits
-- (`accepts_by_notes`), and then the merged bytes are the bytes with each note put in place (`merged_by_notes`).
use Rattle.std.specs.Prelude.{ℕ, suc, ◌+◌, ◌/◌, ◌%◌, ◌≤◌, ◌<◌, ◌≡◌, refl, Bool, true, false, ◌&&◌, not, cond, List, [], ◌∷◌, ◌++◌, eqb, leb, ltb, length, get_or, drop, set}
use Rattle.std.proofs.Common.{sym, ap, ◌∙◌, arith, eqb-true, eq-eqb, le-leb, leb-true, leb-false, ltb-true, le-ltb, lt-ltb, length-set, drop_of_length-le, drop-cons, drop-set-lt, get_or-set_same, get_or-set_other}
use Rattle.std.proofs.Math.Bool.{and_assoc, and-true, and-false}
use Rattle.std.proofs.lemmas.Bool.{eqb-false, lt-leb}
use Rattle.std.proofs.lemmas.List.{set-append_left}
use Rattle.laws.specs.Choice.{both}
use Rattle.laws.specs.Steps.{fold, next}
use Rattle.charset.specs.Table.{OwnReplacement}
use Rattle.forwarding.specs.Forwarded.{differs}
use Rattle.forwarding.specs.Merge.{merged, becomes, accepts}
use Rattle.restore.specs.declared.Note.{Note}

-- a note about place `from` or a later one of the bytes g: its byte is changed there, and becomes the byte that g has
abbrev pub note_fits : (ℕ → ℕ) → (ℕ → Bool) → List ℕ → ℕ → ℕ → Bool
note_fits r is_text g from v =
    leb from (v / 256) && (ltb (v / 256) (length g) && becomes r is_text (v / 256) (v % 256) (get_or g (v / 256) 0))

-- the same by the note's place and byte
abbrev pub note_of : ℕ → Note
note_of v = record { place = v / 256; byte = v % 256 }

abbrev pub fits : (ℕ → ℕ) → (ℕ → Bool) → List ℕ → ℕ → Note → Bool
fits r is_text g from n =
    leb from n.place && (ltb n.place (length g) && becomes r is_text n.place n.byte (get_or g n.place 0))

-- notes by rising place
abbrev pub notes_fit : (ℕ → ℕ) → (ℕ → Bool) → List ℕ → ℕ → List ℕ → Bool
notes_fit r is_text g from [] = true
notes_fit r is_text g from (v ∷ ns) = note_fits r is_text g from v && notes_fit r is_text g (v / 256 + 1) ns

-- a note put in place, and all of them
abbrev pub put_note : List ℕ → ℕ → List ℕ
put_note s v = set s (v / 256) (v % 256)

abbrev pub put_notes : List ℕ → List ℕ → List ℕ
put_notes s ns = fold put_note s ns

-- every note is about a place below n
abbrev pub in_file : ℕ → List ℕ → Bool
in_file n [] = true
in_file n (v ∷ ns) = ltb (v / 256) n && in_file n ns

pub inside_more : (n m : ℕ) (ns : List ℕ) → n ≤ m → in_file n ns ≡ true → in_file m ns ≡ true
inside_more n m [] h e = refl
inside_more n m (v ∷ ns) h e =
    let w = both (ltb (v / 256) n) (in_file n ns) e in
    rw (lt-ltb (v / 256) m (omega (arith, ltb-true (v / 256) n w.0))) (inside_more n m ns h w.1)

-- the note at j, and those after it
pub inside_next : (ns : List ℕ) (n j : ℕ) → j < length ns → in_file n (drop j ns) ≡ true
    → (get_or ns j 0 / 256 < n) × (in_file n (drop (j + 1) ns) ≡ true)
inside_next ns n j h e =
    let w = both (ltb (get_or ns j 0 / 256) n) (in_file n (drop (j + 1) ns)) (rw (next ns j 0 h) at e) in
    (ltb-true _ _ w.0, w.1)

pub notes_length : (ns s : List ℕ) → length (put_notes s ns) ≡ length s
notes_length [] s = refl
notes_length (v ∷ ns) s = notes_length ns (put_note s v) ∙ length-set s (v / 256) (v % 256)

-- notes about the bytes in front
pub notes_in_front : (ns xs ys : List ℕ) → in_file (length xs) ns ≡ true → put_notes (xs ++ ys) ns ≡ put_notes xs ns ++ ys
notes_in_front [] xs ys e = refl
notes_in_front (v ∷ ns) xs ys e =
    let w = both (ltb (v / 256) (length xs)) (in_file (length xs) ns) e in
    ap (λ (s : List ℕ). put_notes s ns) (set-append_left xs ys (v / 256) (v % 256) (ltb-true _ _ w.0))
    ∙ notes_in_front ns (put_note xs v) ys (rw (length-set xs (v / 256) (v % 256)) w.1)

-- what is left of s at place i begins with the byte there
heads : (s t : List ℕ) (i b : ℕ) → i < length s → drop i s ≡ b ∷ t → (get_or s i 0 ≡ b) × (drop (suc i) s ≡ t)
heads s t i b h e = let d = drop-cons s i 0 h in (cc, cc)

front : (s : List ℕ) (i b : ℕ) → i < length s → get_or s i 0 ≡ b → b ∷ drop (suc i) s ≡ drop i s
front s i b h e = ap (λ (c : ℕ). c ∷ drop (suc i) s) (sym e) ∙ sym (drop-cons s i 0 h)

not_here : (i p : ℕ) → (p ≡ i → ⊥) → leb i p ≡ leb (suc i) p
not_here i p n = go (leb (suc i) p) refl
  where
    go : (t : Bool) → leb (suc i) p ≡ t → leb i p ≡ t
    go true e = let l = leb-true (suc i) p e in le-leb i p (omega arith)
    go false e = let l = leb-false (suc i) p e in lt-leb i p (omega arith)

-- a note past the end
past : (i p n : ℕ) (x : Bool) → n ≤ i → leb i p && (ltb p n && x) ≡ false
past i p n x h = go (leb i p) refl
  where
    go : (t : Bool) → leb i p ≡ t → t && (ltb p n && x) ≡ false
    go true e = let l = leb-true i p e in rw (le-ltb p n (omega arith))
    go false e = refl

swap : (a b c d : Bool) → (c ≡ true → a ≡ true) → (a && b) && (c && d) ≡ c && (b && d)
swap a b true d h = rw (h refl)
swap a b false d h = and-false (a && b)

module _ (r : ℕ → ℕ) (is_text : ℕ → Bool) (g : List ℕ) where
  -- what it is that a note fits, and that the first of several does
  fitting : (from v : ℕ) → note_fits r is_text g from v ≡ true
      → (from ≤ v / 256) × (v / 256 < length g) × (becomes r is_text (v / 256) (v % 256) (get_or g (v / 256) 0) ≡ true)
  fitting from v e =
      let w = both (leb from (v / 256)) (ltb (v / 256) (length g) && becomes r is_text (v / 256) (v % 256) (get_or g (v / 256) 0)) e in
      let u = both (ltb (v / 256) (length g)) (becomes r is_text (v / 256) (v % 256) (get_or g (v / 256) 0)) w.1 in
      (leb-true _ _ w.0, ltb-true _ _ u.0, u.1)

  fits_first : (from v : ℕ) (ns : List ℕ) → notes_fit r is_text g from (v ∷ ns) ≡ true
      → (note_fits r is_text g from v ≡ true) × (notes_fit r is_text g (v / 256 + 1) ns ≡ true)
  fits_first from v ns e = both (note_fits r is_text g from v) (notes_fit r is_text g (v / 256 + 1) ns) e

  pub notes_inside : (from : ℕ) (ns : List ℕ) → notes_fit r is_text g from ns ≡ true → in_file (length g) ns ≡ true
  notes_inside from [] e = refl
  notes_inside from (v ∷ ns) e =
      let w = fits_first from v ns e in
      rw (lt-ltb (v / 256) (length g) (fitting from v w.0).1) (notes_inside (v / 256 + 1) ns w.1)

  -- the bytes before the first note stay
  untouched : (ns s : List ℕ) (from j : ℕ) → notes_fit r is_text g from ns ≡ true → j < from → get_or (put_notes s ns) j 0 ≡ get_or s j 0
  untouched [] s from j e h = refl
  untouched (v ∷ ns) s from j e h =
      let w = fits_first from v ns e in
      let l = (fitting from v w.0).0 in
      untouched ns (put_note s v) (v / 256 + 1) j w.1 (omega arith) ∙ get_or-set_other s (v / 256) j (v % 256) 0 (λ q. omega arith)

  merged_at : (t : List ℕ) (i : ℕ) (ns s : List ℕ) → drop i s ≡ t → i + length t ≡ length s → notes_fit r is_text g i ns ≡ true
      → merged i t ns ≡ drop i (put_notes s ns)
  merged_at [] i ns s e l f = sym (drop_of_length-le (put_notes s ns) {i = i} (omega (arith, notes_length ns s)))
  merged_at (b ∷ t) i [] s e l f = sym e
  merged_at (b ∷ t) i (v ∷ ns) s e l f =
      let w = heads s t i b (omega arith) e in
      go (eqb (v / 256) i) refl f w (merged_at t (suc i) ns (put_note s v)) (merged_at t (suc i) (v ∷ ns) s w.1 (omega arith))
    where
      go : (x : Bool) → eqb (v / 256) i ≡ x → notes_fit r is_text g i (v ∷ ns) ≡ true
          → (get_or s i 0 ≡ b) × (drop (suc i) s ≡ t)
          → (drop (suc i) (put_note s v) ≡ t → suc i + length t ≡ length (put_note s v) → notes_fit r is_text g (suc i) ns ≡ true → merged (suc i) t ns ≡ drop (suc i) (put_notes (put_note s v) ns))
          → (notes_fit r is_text g (suc i) (v ∷ ns) ≡ true → merged (suc i) t (v ∷ ns) ≡ drop (suc i) (put_notes s (v ∷ ns)))
          → cond x (v % 256 ∷ merged (suc i) t ns) (b ∷ merged (suc i) t (v ∷ ns)) ≡ drop i (put_notes s (v ∷ ns))
      go true q f w h k =
          let p = eqb-true (v / 256) i q in
          let z : v / 256 + 1 ≡ suc i = omega arith in
          let fit : notes_fit r is_text g (suc i) ns ≡ true = rw z at (fits_first i v ns f).1 in
          let long = length-set s (v / 256) (v % 256) in
          let here : get_or (put_note s v) i 0 ≡ v % 256 =
          ap (λ (n : ℕ). get_or (put_note s v) n 0) (sym p) ∙ get_or-set_same s (v / 256) (v % 256) 0 (omega arith) in
          ap (λ (x : List ℕ). v % 256 ∷ x) (h (drop-set-lt (suc i) s (v / 256) (v % 256) (omega arith) ∙ w.1) (omega arith) fit)
          ∙ front (put_notes (put_note s v) ns) i (v % 256) (omega (arith, notes_length ns (put_note s v))) (untouched ns (put_note s v) (suc i) i fit (omega arith) ∙ here)
      go false q f w h k =
          let fit : notes_fit r is_text g (suc i) (v ∷ ns) ≡ true = rw (not_here i (v / 256) (eqb-false (v / 256) i q)) at f in
          ap (λ (x : List ℕ). b ∷ x) (k fit)
          ∙ front (put_notes s (v ∷ ns)) i b (omega (arith, notes_length (v ∷ ns) s)) (untouched (v ∷ ns) s (suc i) i fit (omega arith) ∙ w.0)

  pub merged_by_notes : (ns : List ℕ) → notes_fit r is_text g 0 ns ≡ true → merged 0 g ns ≡ put_notes g ns
  merged_by_notes ns f = merged_at g 0 ns g refl (omega arith) f

  module _ (steady : OwnReplacement r) where
    -- a byte that another became is not changed
    became : (i was b : ℕ) → becomes r is_text i was b ≡ true → not (differs r is_text i b) ≡ true
    became i was b e =
        let w = both (differs r is_text i was) (eqb (r was) b) e in
        let p = eqb-true (r was) b w.1 in
        let q : r b ≡ b = ap r (sym p) ∙ steady was ∙ p in
        rw (eq-eqb (r b) b q, and-false (is_text i))

    accepts_at : (t : List ℕ) (i : ℕ) (ns : List ℕ) → drop i g ≡ t → i + length t ≡ length g
        → accepts r is_text i t [] && notes_fit r is_text g i ns ≡ accepts r is_text i t ns
    accepts_at [] i [] e l = refl
    accepts_at [] i (v ∷ ns) e l = rw (past i (v / 256) (length g) (becomes r is_text (v / 256) (v % 256) (get_or g (v / 256) 0)) (omega arith))
    accepts_at (b ∷ t) i [] e l = and-true _
    accepts_at (b ∷ t) i (v ∷ ns) e l =
        let w = heads g t i b (omega arith) e in
        go (eqb (v / 256) i) refl w (accepts_at t (suc i) ns w.1 (omega arith)) (accepts_at t (suc i) (v ∷ ns) w.1 (omega arith))
      where
        go : (x : Bool) → eqb (v / 256) i ≡ x → (get_or g i 0 ≡ b) × (drop (suc i) g ≡ t)
            → accepts r is_text (suc i) t [] && notes_fit r is_text g (suc i) ns ≡ accepts r is_text (suc i) t ns
            → accepts r is_text (suc i) t [] && notes_fit r is_text g (suc i) (v ∷ ns) ≡ accepts r is_text (suc i) t (v ∷ ns)
            → (not (differs r is_text i b) && accepts r is_text (suc i) t []) && (note_fits r is_text g i v && notes_fit r is_text g (v / 256 + 1) ns)
            ≡ cond x (becomes r is_text i (v % 256) b && accepts r is_text (suc i) t ns)
            (not (differs r is_text i b) && accepts r is_text (suc i) t (v ∷ ns))
        go true q w h k =
            let p = eqb-true (v / 256) i q in
            let z : v / 256 + 1 ≡ suc i = omega arith in
            let fits : note_fits r is_text g i v ≡ becomes r is_text i (v % 256) b =
            rw (p, le-leb i i (omega arith), lt-ltb i (length g) (omega arith), w.0) in
            rw (fits, z, ← h) (swap _ _ _ _ (became i (v % 256) b))
        go false q w h k =
            let fit = not_here i (v / 256) (eqb-false (v / 256) i q) in
            and_assoc (not (differs r is_text i b)) _ _ ∙ ap (λ (x : Bool). not (differs r is_text i b) && x) (rw fit k)

    pub accepts_by_notes : (ns : List ℕ) → accepts r is_text 0 g ns ≡ accepts r is_text 0 g [] && notes_fit r is_text g 0 ns
    accepts_by_notes ns = sym (accepts_at g 0 ns refl (omega arith))
