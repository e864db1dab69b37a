-- Document 01, "Character table", and document 02, A2 (RULES 3): what the receiver carries, and what each other character
-- becomes. A-Z, a-z, 0-9, space and . , - / + % are unchanged. & becomes +, $ becomes S, and the four German characters
-- become A, O, U and S. Every other byte becomes a space. "The caller names the code page, 0 for DIN 66003, 1 for ISO
-- 8859-1": by it the four are read. The theorem, `rep_rep`: a replaced character is its own replacement.
use Rattle.std.specs.Prelude.{ℕ, zero, suc, ◌≡◌, refl, Bool, true, false, ◌&&◌, ◌||◌, cond, List, [], ◌∷◌, map, eqb, leb, T}
use Rattle.std.proofs.Common.{sym, ap, ◌∙◌, eq-eqb, ne_eqb}
use Rattle.std.proofs.lemmas.Bool.{false≢true}
use Prim.Native.Char.{code}
use Rattle.laws.specs.Ascii.{ascii}

abbrev pub within : ℕ → ℕ → ℕ → Bool
within lo hi b = leb lo b && leb b hi

abbrev pub among : List ℕ → ℕ → Bool
among [] b = false
among (x ∷ xs) b = eqb b x || among xs b

abbrev pub unchanged : ℕ → Bool
unchanged b =
    within (code "A") (code "Z") b || within (code "a") (code "z") b || within (code "0") (code "9") b || among (ascii " .,-/+%") b

-- the pages that there are. The calls refuse any other, so that no answer depends on what stands below for it (demands/Page)
abbrev pub is_page : ℕ → Bool
is_page page = eqb page 0 || eqb page 1

-- the four German characters at their codes on page 0 and on page 1, and what they become; any other number has page 1's
-- rows, on which no answer depends: a reader of such a page asks for them, and its end is 7
abbrev pub german : ℕ → List (ℕ × ℕ)
german zero = (0x5B, code "A") ∷ (0x5C, code "O") ∷ (0x5D, code "U") ∷ (0x7E, code "S") ∷ []
german (suc _) = (0xC4, code "A") ∷ (0xD6, code "O") ∷ (0xDC, code "U") ∷ (0xDF, code "S") ∷ []

-- a byte that is not unchanged, and what it becomes
abbrev pub exceptions : ℕ → List (ℕ × ℕ)
exceptions page = (code "&", code "+") ∷ (code "$", code "S") ∷ german page

-- what the first row for b says; a space where there is none
abbrev pub look : List (ℕ × ℕ) → ℕ → ℕ
look [] b = code " "
look (row ∷ rows) b = cond (eqb b row.0) row.1 (look rows b)

unfoldable pub rep : ℕ → ℕ → ℕ
rep page b = cond (unchanged b) b (look (exceptions page) b)

-- "Every rule about a text field reads the replaced characters." (RULES 3.2)
abbrev pub text : ℕ → List ℕ → List ℕ
text page s = map (rep page) s

-- what the demands need of a table: a replaced character is its own replacement
abbrev pub OwnReplacement : (ℕ → ℕ) → Type 0
OwnReplacement r = (b : ℕ) → r (r b) ≡ r b

-- it is so where what the rows yield is unchanged, which is computed for both pages
abbrev pub steady : List (ℕ × ℕ) → Bool
steady [] = true
steady (row ∷ rows) = unchanged row.1 && steady rows

pages_steady : (page : ℕ) → T (steady (exceptions page))
pages_steady zero = tt
pages_steady (suc _) = tt

look_unchanged : (rows : List (ℕ × ℕ)) (b : ℕ) → T (steady rows) → unchanged (look rows b) ≡ true
look_unchanged [] b h = refl
look_unchanged (row ∷ rows) b h = go (eqb b row.0) (unchanged row.1) refl h (look_unchanged rows b)
  where
    go : (hit kept : Bool) → unchanged row.1 ≡ kept → T (kept && steady rows) → (T (steady rows) → unchanged (look rows b) ≡ true)
        → unchanged (cond hit row.1 (look rows b)) ≡ true
    go true true e t ih = e
    go false true e t ih = ih t
    go hit false e t ih = absurd t

pub rep_unchanged : (page b : ℕ) → unchanged (rep page b) ≡ true
unfolding rep
rep_unchanged page b = go (unchanged b) refl
  where
    go : (kept : Bool) → unchanged b ≡ kept → unchanged (cond kept b (look (exceptions page) b)) ≡ true
    go true e = e
    go false e = look_unchanged (exceptions page) b (pages_steady page)

pub unchanged_rep : (page b : ℕ) → unchanged b ≡ true → rep page b ≡ b
unfolding rep
unchanged_rep page b e = rw e

pub rep_rep : (page : ℕ) → OwnReplacement (rep page)
rep_rep page b = unchanged_rep page (rep page b) (rep_unchanged page b)

-- a character is changed where it is not among the unchanged, whatever the page
pub changes_are : (page b : ℕ) → eqb (rep page b) b ≡ unchanged b
changes_are page b = go (unchanged b) refl
  where
    go : (kept : Bool) → unchanged b ≡ kept → eqb (rep page b) b ≡ kept
    go true e = eq-eqb (rep page b) b (unchanged_rep page b e)
    go false e = ne_eqb (rep page b) b (λ q. false≢true (sym e ∙ ap unchanged (sym q) ∙ rep_unchanged page b))

-- every page but 0 is page 1
pub other_page : (page b : ℕ) → (page ≡ 0 → ⊥) → look (german page) b ≡ look (german 1) b
other_page zero b h = absurd (h refl)
other_page (suc _) b h = refl
