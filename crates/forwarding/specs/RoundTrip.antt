-- Forwarding and restoring undo each other, for any table whose replacements stay as they are, and whatever places are text.
-- The theorems: a forwarded list yields itself, with no notes (`fwd_twice`, `fwd_notes`); the notes put back give the bytes
-- (`merged_back`), so two lists never share both (`one_origin`); and a pair is accepted exactly when some bytes yield it
-- (`accepts_exactly`). Then the same of whole files.
use Rattle.std.specs.Prelude.{ℕ, zero, suc, ◌+◌, ◌*◌, ◌/◌, ◌%◌, ◌<◌, ◌≡◌, refl, Bool, true, false, ◌&&◌, not, cond, List, [], ◌∷◌, eqb, ltb, length, get_or}
use Rattle.std.proofs.Common.{sym, ap, ap₂, ◌∙◌, arith, eq-eqb, ne_eqb, eqb-true, ltb-true, lit<}
use Rattle.std.proofs.lemmas.Bool.{false≢true, not-true, not-false}
use Rattle.std.proofs.Math.Dec.{eqb-suc-zero}
use Rattle.laws.specs.Choice.{either, both}
use Rattle.charset.specs.Table.{unchanged, exceptions, look, rep, OwnReplacement, rep_rep}
use Rattle.forwarding.specs.Text.{text_at}
use Rattle.forwarding.specs.Forwarded.{fwd, differs, notes, forwarded, notes_of}
use Rattle.forwarding.specs.Parts.{fwd_length}
use Rattle.forwarding.specs.Merge.{merged, becomes, accepts, original_of, is_pair}

-- every element is a byte
abbrev pub Bytes : List ℕ → Type 0
Bytes s = (k : ℕ) → get_or s k 0 < 256

pub merged_none : (i : ℕ) (g : List ℕ) → merged i g [] ≡ g
merged_none i [] = refl
merged_none i (b ∷ g) = refl

pub merged_length : (i : ℕ) (g ns : List ℕ) → length (merged i g ns) ≡ length g
merged_length i [] ns = refl
merged_length i (b ∷ g) [] = refl
merged_length i (b ∷ g) (v ∷ ns) = go (eqb (v / 256) i) (merged_length (suc i) g ns) (merged_length (suc i) g (v ∷ ns))
  where
    go : (x : Bool) → length (merged (suc i) g ns) ≡ length g → length (merged (suc i) g (v ∷ ns)) ≡ length g
        → length (cond x (v % 256 ∷ merged (suc i) g ns) (b ∷ merged (suc i) g (v ∷ ns))) ≡ suc (length g)
    go true p q = ap suc p
    go false p q = ap suc q

pub merged_bytes : (i : ℕ) (g ns : List ℕ) → Bytes g → Bytes (merged i g ns)
merged_bytes i [] ns h = h
merged_bytes i (b ∷ g) [] h = h
merged_bytes i (b ∷ g) (v ∷ ns) h =
    go (eqb (v / 256) i) (merged_bytes (suc i) g ns (λ k. h (suc k))) (merged_bytes (suc i) g (v ∷ ns) (λ k. h (suc k)))
  where
    go : (x : Bool) → Bytes (merged (suc i) g ns) → Bytes (merged (suc i) g (v ∷ ns))
        → Bytes (cond x (v % 256 ∷ merged (suc i) g ns) (b ∷ merged (suc i) g (v ∷ ns)))
    go true p q zero = omega arith
    go true p q (suc k) = p k
    go false p q zero = h 0
    go false p q (suc k) = q k

pub fwd_bytes : (r : ℕ → ℕ) (is_text : ℕ → Bool) → ((b : ℕ) → b < 256 → r b < 256) → (i : ℕ) (f : List ℕ) → Bytes f → Bytes (fwd r is_text i f)
fwd_bytes r is_text rb i [] h k = h k
fwd_bytes r is_text rb i (b ∷ f) h zero = either (λ (x : ℕ). x < 256) (is_text i) (r b) b (rb b (h 0)) (h 0)
fwd_bytes r is_text rb i (b ∷ f) h (suc k) = fwd_bytes r is_text rb (suc i) f (λ j. h (suc j)) k

-- the table makes bytes of bytes, on every page: the test of its rows computes
abbrev byte_rows : List (ℕ × ℕ) → Bool
byte_rows [] = true
byte_rows (row ∷ rows) = ltb row.1 256 && byte_rows rows

look_byte : (rows : List (ℕ × ℕ)) (b : ℕ) → byte_rows rows ≡ true → look rows b < 256
look_byte [] b e = lit< tt
look_byte (row ∷ rows) b e =
    let w = both (ltb row.1 256) (byte_rows rows) e in
    either (λ (x : ℕ). x < 256) (eqb b row.0) row.1 (look rows b) (ltb-true _ _ w.0) (look_byte rows b w.1)

pages_bytes : (page : ℕ) → byte_rows (exceptions page) ≡ true
pages_bytes zero = refl
pages_bytes (suc _) = refl

pub rep_byte : (page b : ℕ) → b < 256 → rep page b < 256
unfolding rep
rep_byte page b h = either (λ (x : ℕ). x < 256) (unchanged b) b (look (exceptions page) b) h (look_byte (exceptions page) b (pages_bytes page))

-- a note gives its place and its byte back
note_place : (i b : ℕ) → b < 256 → (i * 256 + b) / 256 ≡ i
note_place i b h = omega arith

note_byte : (i b : ℕ) → b < 256 → (i * 256 + b) % 256 ≡ b
note_byte i b h = omega arith

-- the list f, of which the first stands at place i, has the forwarded list g and the notes ns
pub record YieldsFrom (r : ℕ → ℕ) (is_text : ℕ → Bool) (i : ℕ) (f g ns : List ℕ) : Type 0 where
  pub forwards : fwd r is_text i f ≡ g
  pub notes_are : notes r is_text i f ≡ ns

module _ (r : ℕ → ℕ) (is_text : ℕ → Bool) where
  -- a byte that is not changed, and one that is
  kept : (i b : ℕ) → differs r is_text i b ≡ false → cond (is_text i) (r b) b ≡ b
  kept i b e = go (is_text i) e
    where
      go : (t : Bool) → t && not (eqb (r b) b) ≡ false → cond t (r b) b ≡ b
      go true e = eqb-true (r b) b (not-false _ e)
      go false e = refl

  replaced : (i b : ℕ) → differs r is_text i b ≡ true → cond (is_text i) (r b) b ≡ r b
  replaced i b e = rw (both (is_text i) (not (eqb (r b) b)) e).0

  -- no note of what follows a place is about it: the byte there stands as it is, and the notes wait
  module _ (j b : ℕ) (g : List ℕ) where
    waits : (i : ℕ) (f : List ℕ) → j < i → merged j (b ∷ g) (notes r is_text i f) ≡ b ∷ merged (suc j) g (notes r is_text i f)
    waits i [] h = ap (λ (l : List ℕ). b ∷ l) (sym (merged_none (suc j) g))
    waits i (x ∷ f) h = go (differs r is_text i x) (waits (suc i) f (omega arith))
      where
        go : (d : Bool) → merged j (b ∷ g) (notes r is_text (suc i) f) ≡ b ∷ merged (suc j) g (notes r is_text (suc i) f)
            → merged j (b ∷ g) (cond d ((i * 256 + x) ∷ notes r is_text (suc i) f) (notes r is_text (suc i) f))
            ≡ b ∷ merged (suc j) g (cond d ((i * 256 + x) ∷ notes r is_text (suc i) f) (notes r is_text (suc i) f))
        go true e = rw (ne_eqb ((i * 256 + x) / 256) j (omega arith))
        go false e = e

    accepts_waits : (i : ℕ) (f : List ℕ) → j < i
        → accepts r is_text j (b ∷ g) (notes r is_text i f) ≡ not (differs r is_text j b) && accepts r is_text (suc j) g (notes r is_text i f)
    accepts_waits i [] h = refl
    accepts_waits i (x ∷ f) h = go (differs r is_text i x) (accepts_waits (suc i) f (omega arith))
      where
        go : (d : Bool)
            → accepts r is_text j (b ∷ g) (notes r is_text (suc i) f) ≡ not (differs r is_text j b) && accepts r is_text (suc j) g (notes r is_text (suc i) f)
            → accepts r is_text j (b ∷ g) (cond d ((i * 256 + x) ∷ notes r is_text (suc i) f) (notes r is_text (suc i) f))
            ≡ not (differs r is_text j b) && accepts r is_text (suc j) g (cond d ((i * 256 + x) ∷ notes r is_text (suc i) f) (notes r is_text (suc i) f))
        go true e = rw (ne_eqb ((i * 256 + x) / 256) j (omega arith))
        go false e = e

  pub merged_back : (i : ℕ) (f : List ℕ) → Bytes f → merged i (fwd r is_text i f) (notes r is_text i f) ≡ f
  merged_back i [] h = refl
  merged_back i (b ∷ f) h = go (differs r is_text i b) refl ∙ ap (λ (l : List ℕ). b ∷ l) (merged_back (suc i) f (λ k. h (suc k)))
    where
      go : (d : Bool) → differs r is_text i b ≡ d
          → merged i (cond (is_text i) (r b) b ∷ fwd r is_text (suc i) f) (cond d ((i * 256 + b) ∷ notes r is_text (suc i) f) (notes r is_text (suc i) f))
          ≡ b ∷ merged (suc i) (fwd r is_text (suc i) f) (notes r is_text (suc i) f)
      go true e = rw (eq-eqb _ _ (note_place i b (h 0)), note_byte i b (h 0))
      go false e = rw (kept i b e) (waits i b (fwd r is_text (suc i) f) (suc i) f (omega arith))

  -- two lists of bytes that share both are one
  pub one_origin : (i : ℕ) (f f' : List ℕ) → Bytes f → Bytes f' → fwd r is_text i f ≡ fwd r is_text i f' → notes r is_text i f ≡ notes r is_text i f' → f ≡ f'
  one_origin i f f' h h' p q = sym (merged_back i f h) ∙ ap₂ (merged i) p q ∙ merged_back i f' h'

  -- what bytes yield is accepted
  pub accepts_yielded : (i : ℕ) (f : List ℕ) → Bytes f → accepts r is_text i (fwd r is_text i f) (notes r is_text i f) ≡ true
  accepts_yielded i [] h = refl
  accepts_yielded i (b ∷ f) h = go (differs r is_text i b) refl (accepts_yielded (suc i) f (λ k. h (suc k)))
    where
      go : (d : Bool) → differs r is_text i b ≡ d → accepts r is_text (suc i) (fwd r is_text (suc i) f) (notes r is_text (suc i) f) ≡ true
          → accepts r is_text i (cond (is_text i) (r b) b ∷ fwd r is_text (suc i) f) (cond d ((i * 256 + b) ∷ notes r is_text (suc i) f) (notes r is_text (suc i) f))
          ≡ true
      go true e a = rw (eq-eqb _ _ (note_place i b (h 0)), note_byte i b (h 0), e, eq-eqb _ _ (sym (replaced i b e)), a)
      go false e a = rw (kept i b e) (accepts_waits i b (fwd r is_text (suc i) f) (suc i) f (omega arith) ∙ rw (e, a))

  -- and what is accepted, the merged bytes yield
  module _ (i b : ℕ) (f g ns : List ℕ) (y : YieldsFrom r is_text (suc i) f g ns) where
    yields_kept : not (differs r is_text i b) ≡ true → YieldsFrom r is_text i (b ∷ f) (b ∷ g) ns
    yields_kept e =
        let d = not-true (differs r is_text i b) e in
        record { forwards = ap₂ ◌∷◌ (kept i b d) y.forwards; notes_are = rw (d, y.notes_are) }

    yields_noted : (v : ℕ) → v / 256 ≡ i → becomes r is_text i (v % 256) b ≡ true → YieldsFrom r is_text i (v % 256 ∷ f) (b ∷ g) (v ∷ ns)
    yields_noted v p e =
        let w = both (differs r is_text i (v % 256)) (eqb (r (v % 256)) b) e in
        let z : i * 256 + v % 256 ≡ v = omega arith in
        record {
          forwards = ap₂ ◌∷◌ (replaced i (v % 256) w.0 ∙ eqb-true _ _ w.1) y.forwards;
          notes_are = rw (w.0, z, y.notes_are);
        }

  pub accepted_yields : (i : ℕ) (g ns : List ℕ) → accepts r is_text i g ns ≡ true → YieldsFrom r is_text i (merged i g ns) g ns
  accepted_yields i [] [] e = record { forwards = refl; notes_are = refl }
  accepted_yields i [] (v ∷ ns) e = absurd (false≢true e)
  accepted_yields i (b ∷ g) [] e =
      let w = both _ _ e in
      yields_kept i b g g [] (rw (merged_none (suc i) g) at (accepted_yields (suc i) g [] w.1)) w.0
  accepted_yields i (b ∷ g) (v ∷ ns) e = go (eqb (v / 256) i) refl e (accepted_yields (suc i) g ns) (accepted_yields (suc i) g (v ∷ ns))
    where
      go : (x : Bool) → eqb (v / 256) i ≡ x
          → cond x (becomes r is_text i (v % 256) b && accepts r is_text (suc i) g ns)
          (not (differs r is_text i b) && accepts r is_text (suc i) g (v ∷ ns)) ≡ true
          → (accepts r is_text (suc i) g ns ≡ true → YieldsFrom r is_text (suc i) (merged (suc i) g ns) g ns)
          → (accepts r is_text (suc i) g (v ∷ ns) ≡ true → YieldsFrom r is_text (suc i) (merged (suc i) g (v ∷ ns)) g (v ∷ ns))
          → YieldsFrom r is_text i (cond x (v % 256 ∷ merged (suc i) g ns) (b ∷ merged (suc i) g (v ∷ ns))) (b ∷ g) (v ∷ ns)
      go true p e y z = let w = both _ _ e in yields_noted i b _ g ns (y w.1) v (eqb-true _ _ p) w.0
      go false p e y z = let w = both _ _ e in yields_kept i b _ g (v ∷ ns) (z w.1) w.0

  -- so a pair is accepted exactly when some bytes yield it
  pub accepts_exactly : (i : ℕ) (g ns : List ℕ) → Bytes g
      → (accepts r is_text i g ns ≡ true → (f : List ℕ) × Bytes f × YieldsFrom r is_text i f g ns)
      × ((f : List ℕ) → Bytes f → YieldsFrom r is_text i f g ns → accepts r is_text i g ns ≡ true)
  accepts_exactly i g ns h = (
    λ e. (merged i g ns, merged_bytes i g ns h, accepted_yields i g ns e),
    λ f k y. ap₂ (accepts r is_text i) (sym y.forwards) (sym y.notes_are) ∙ accepts_yielded i f k,
  )

  -- no notes: accepted where the bytes themselves have none
  pub none_left : (i : ℕ) (g : List ℕ) → accepts r is_text i g [] ≡ eqb (length (notes r is_text i g)) 0
  none_left i [] = refl
  none_left i (b ∷ g) = go (differs r is_text i b) (none_left (suc i) g)
    where
      go : (d : Bool) → accepts r is_text (suc i) g [] ≡ eqb (length (notes r is_text (suc i) g)) 0
          → not d && accepts r is_text (suc i) g [] ≡ eqb (length (cond d ((i * 256 + b) ∷ notes r is_text (suc i) g) (notes r is_text (suc i) g))) 0
      go true e = sym (eqb-suc-zero (length (notes r is_text (suc i) g)))
      go false e = e

  -- a table whose replacements stay as they are: a forwarded list yields itself, with no notes
  module _ (steady : OwnReplacement r) where
    settled : (i b : ℕ) → differs r is_text i (cond (is_text i) (r b) b) ≡ false
    settled i b = go (is_text i)
      where
        go : (t : Bool) → t && not (eqb (r (cond t (r b) b)) (cond t (r b) b)) ≡ false
        go true = rw (eq-eqb _ _ (steady b))
        go false = refl

    pub fwd_twice : (i : ℕ) (f : List ℕ) → fwd r is_text i (fwd r is_text i f) ≡ fwd r is_text i f
    fwd_twice i [] = refl
    fwd_twice i (b ∷ f) = ap₂ ◌∷◌ (kept i _ (settled i b)) (fwd_twice (suc i) f)

    pub fwd_notes : (i : ℕ) (f : List ℕ) → notes r is_text i (fwd r is_text i f) ≡ []
    fwd_notes i [] = refl
    fwd_notes i (b ∷ f) = rw (settled i b) (fwd_notes (suc i) f)

-- of whole files, on every code page
module _ (page : ℕ) where
  pub forwarded_length : (f : List ℕ) → length (forwarded page f) ≡ length f
  unfolding forwarded
  forwarded_length f = fwd_length (rep page) (text_at (length f)) 0 f

  pub forwarded_bytes : (f : List ℕ) → Bytes f → Bytes (forwarded page f)
  unfolding forwarded
  forwarded_bytes f h = fwd_bytes (rep page) (text_at (length f)) (rep_byte page) 0 f h

  pub forwarded_forwarded : (f : List ℕ) → forwarded page (forwarded page f) ≡ forwarded page f
  unfolding forwarded
  forwarded_forwarded f = rw fwd_length (fwd_twice (rep page) (text_at (length f)) (rep_rep page) 0 f)

  pub forwarded_notes : (f : List ℕ) → notes_of page (forwarded page f) ≡ []
  unfolding forwarded notes_of
  forwarded_notes f = rw fwd_length (fwd_notes (rep page) (text_at (length f)) (rep_rep page) 0 f)

  -- a file and no notes are a pair where nothing of the file is left to replace
  pub pair_alone : (g : List ℕ) → is_pair page g [] ≡ eqb (length (notes_of page g)) 0
  unfolding is_pair notes_of
  pair_alone g = none_left (rep page) (text_at (length g)) 0 g

  pub original_back : (f : List ℕ) → Bytes f → original_of (forwarded page f) (notes_of page f) ≡ f
  unfolding forwarded notes_of original_of
  original_back f h = merged_back (rep page) (text_at (length f)) 0 f h

  pub pair_yielded : (f : List ℕ) → Bytes f → is_pair page (forwarded page f) (notes_of page f) ≡ true
  unfolding forwarded notes_of is_pair
  pair_yielded f h = rw fwd_length (accepts_yielded (rep page) (text_at (length f)) 0 f h)

  pub pair_yields : (g ns : List ℕ) → is_pair page g ns ≡ true
      → (forwarded page (original_of g ns) ≡ g) × (notes_of page (original_of g ns) ≡ ns)
  unfolding forwarded notes_of original_of is_pair
  pair_yields g ns e =
      let y = accepted_yields (rep page) (text_at (length g)) 0 g ns e in
      (rw merged_length y.forwards, rw merged_length y.notes_are)

pub original_bytes : (g ns : List ℕ) → Bytes g → Bytes (original_of g ns)
unfolding original_of
original_bytes g ns h = merged_bytes 0 g ns h
