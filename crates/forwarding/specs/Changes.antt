-- Which characters the table changes does not depend on the page: the notes of a text are the same on every page, and so is
-- how many they are.
use Rattle.std.specs.Prelude.{ℕ, suc, ◌+◌, ◌*◌, ◌≤◌, ◌≡◌, refl, Bool, true, false, ◌&&◌, not, cond, List, [], ◌∷◌, ◌++◌, eqb, length}
use Rattle.std.proofs.Common.{sym, ap, ap₂, ◌∙◌, add-zero, arith, eqb-true, eq-eqb, ne_eqb, lit≤, length-append}
use Rattle.std.proofs.Math.Bool.{and-true, and_assoc}
use Rattle.laws.specs.Choice.{either, both}
use Rattle.laws.specs.Steps.{fold}
use Rattle.charset.specs.Table.{unchanged, rep, text, changes_are, unchanged_rep}
use Rattle.forwarding.specs.Text.{text_at}
use Rattle.forwarding.specs.Forwarded.{fwd, notes, forwarded, notes_of}
use Rattle.forwarding.specs.Parts.{always, fwd_always, notes_append, notes_few}

-- the notes of a text, of which the first character stands at place i
abbrev pub text_notes : ℕ → List ℕ → List ℕ
text_notes i [] = []
text_notes i (b ∷ s) = cond (unchanged b) (text_notes (suc i) s) ((i * 256 + b) ∷ text_notes (suc i) s)

pub text_notes_are : (page i : ℕ) (s : List ℕ) → notes (rep page) always i s ≡ text_notes i s
text_notes_are page i [] = refl
text_notes_are page i (b ∷ s) = rw (changes_are page b) (go (unchanged b) (text_notes_are page (suc i) s))
  where
    go : (kept : Bool) {xs ys : List ℕ} → xs ≡ ys → cond (not kept) ((i * 256 + b) ∷ xs) xs ≡ cond kept ys ((i * 256 + b) ∷ ys)
    go true h = h
    go false h = ap (λ (l : List ℕ). (i * 256 + b) ∷ l) h

pub text_append : (i : ℕ) (xs ys : List ℕ) → text_notes i (xs ++ ys) ≡ text_notes i xs ++ text_notes (i + length xs) ys
text_append i xs ys =
    sym (text_notes_are 0 i (xs ++ ys)) ∙ notes_append (rep 0) always i xs ys ∙ ap₂ ◌++◌ (text_notes_are 0 i xs) (text_notes_are 0 (i + length xs) ys)

-- the notes of any places, and so those of a file, on any two pages
pub any_page : (p q : ℕ) (t : ℕ → Bool) (i : ℕ) (xs : List ℕ) → notes (rep p) t i xs ≡ notes (rep q) t i xs
any_page p q t i [] = refl
any_page p q t i (b ∷ xs) =
    let same : eqb (rep p b) b ≡ eqb (rep q b) b = changes_are p b ∙ sym (changes_are q b) in
    ap₂ (λ (e : Bool) (rest : List ℕ). cond (t i && not e) ((i * 256 + b) ∷ rest) rest) same (any_page p q t (suc i) xs)

pub notes_page : (p q : ℕ) (file : List ℕ) → notes_of p file ≡ notes_of q file
unfolding notes_of
notes_page p q file = any_page p q (text_at (length file)) 0 file

-- how many characters of a text are changed
abbrev pub changed : ℕ → ℕ
changed b = cond (unchanged b) 0 1

abbrev pub counted : ℕ → ℕ → ℕ
counted n b = n + changed b

unfoldable pub changes : List ℕ → ℕ
changes s = fold counted 0 s

count_from : (n i : ℕ) (s : List ℕ) → fold counted n s ≡ n + length (text_notes i s)
count_from n i [] = sym (add-zero n)
count_from n i (b ∷ s) = count_from (n + changed b) (suc i) s ∙ go (unchanged b) (text_notes (suc i) s)
  where
    go : (kept : Bool) (rest : List ℕ) → n + cond kept 0 1 + length rest ≡ n + length (cond kept rest ((i * 256 + b) ∷ rest))
    go true rest = omega arith
    go false rest = omega arith

-- as many as there are notes, wherever it stands; no more than there are characters
pub changes_noted : (i : ℕ) (s : List ℕ) → changes s ≡ length (text_notes i s)
unfolding changes
changes_noted i s = count_from 0 i s ∙ omega arith

pub changes_append : (xs ys : List ℕ) → changes (xs ++ ys) ≡ changes xs + changes ys
changes_append xs ys =
    changes_noted 0 (xs ++ ys) ∙ ap length (text_append 0 xs ys) ∙ length-append (text_notes 0 xs) (text_notes (0 + length xs) ys)
    ∙ ap₂ ◌+◌ (sym (changes_noted 0 xs)) (sym (changes_noted (0 + length xs) ys))

pub changes_few : (s : List ℕ) → changes s ≤ length s
changes_few s = omega (arith, changes_noted 0 s, ap length (text_notes_are 0 0 s), notes_few (rep 0) always 0 s)

-- no change so far, and then in the rest
abbrev pub kept : Bool → ℕ → Bool
kept t b = t && unchanged b

none_more : (b : ℕ) (s : List ℕ) → eqb (changes (b ∷ s)) 0 ≡ unchanged b && eqb (changes s) 0
none_more b s = ap (λ (n : ℕ). eqb n 0) (changes_noted 0 (b ∷ s)) ∙ go (unchanged b)
  where
    go : (stays : Bool) → eqb (length (cond stays (text_notes 1 s) ((0 * 256 + b) ∷ text_notes 1 s))) 0 ≡ stays && eqb (changes s) 0
    go true = ap (λ (n : ℕ). eqb n 0) (sym (changes_noted 1 s))
    go false = ne_eqb (suc (length (text_notes 1 s))) 0 (λ (e : suc (length (text_notes 1 s)) ≡ 0). omega arith)

pub none_fold : (t : Bool) (s : List ℕ) → fold kept t s ≡ t && eqb (changes s) 0
unfolding changes
none_fold t [] = sym (and-true t)
none_fold t (b ∷ s) =
    none_fold (t && unchanged b) s ∙ and_assoc t (unchanged b) (eqb (changes s) 0) ∙ ap (λ (u : Bool). t && u) (sym (none_more b s))

-- bytes without notes are forwarded as they are; so is a file, and a text with no change is as the table has it
without_notes : (r : ℕ → ℕ) (t : ℕ → Bool) (i : ℕ) (xs : List ℕ) → length (notes r t i xs) ≡ 0 → fwd r t i xs ≡ xs
without_notes r t i [] e = refl
without_notes r t i (b ∷ xs) e = by (t i) (eqb (r b) b) refl e (without_notes r t (suc i) xs)
  where
    by : (in_text same : Bool) → eqb (r b) b ≡ same
        → length (cond (in_text && not same) ((i * 256 + b) ∷ notes r t (suc i) xs) (notes r t (suc i) xs)) ≡ 0
        → (length (notes r t (suc i) xs) ≡ 0 → fwd r t (suc i) xs ≡ xs) → cond in_text (r b) b ∷ fwd r t (suc i) xs ≡ b ∷ xs
    by true true q e rest = ap₂ ◌∷◌ (eqb-true (r b) b q) (rest e)
    by true false q e rest = absurd (omega arith)
    by false same q e rest = ap (λ (l : List ℕ). b ∷ l) (rest e)

pub as_it_is : (page : ℕ) (file : List ℕ) → length (notes_of page file) ≡ 0 → forwarded page file ≡ file
unfolding forwarded notes_of
as_it_is page file e = without_notes (rep page) (text_at (length file)) 0 file e

pub unchanged_text : (page : ℕ) (s : List ℕ) → changes s ≡ 0 → text page s ≡ s
unchanged_text page s e =
    sym (fwd_always (rep page) 0 s) ∙ without_notes (rep page) always 0 s (ap length (text_notes_are page 0 s) ∙ sym (changes_noted 0 s) ∙ e)

-- wherever its places are text
pub unchanged_fwd : (page : ℕ) (t : ℕ → Bool) (i : ℕ) (s : List ℕ) → changes s ≡ 0 → fwd (rep page) t i s ≡ s
unchanged_fwd page t i [] e = refl
unchanged_fwd page t i (b ∷ s) e =
    let h = both (unchanged b) (eqb (changes s) 0) (sym (none_more b s) ∙ eq-eqb (changes (b ∷ s)) 0 e) in
    ap₂ ◌∷◌ (either (λ (c : ℕ). c ≡ b) (t i) (rep page b) b (unchanged_rep page b h.0) refl)
    (unchanged_fwd page t (suc i) s (eqb-true (changes s) 0 h.1))

pub changed_few : (b : ℕ) → changed b ≤ 1
changed_few b = either (λ (n : ℕ). n ≤ 1) (unchanged b) 0 1 (lit≤ tt) (lit≤ tt)
