-- The forwarded file and the notes, place by place (RULES 10.1, 10.2). Document 01: "A note is a 32-bit number, place in
-- the file × 256 + original byte."; demand 2: each text character is replaced by the table, and the notes list every
-- changed character once, by rising place.
use Rattle.std.specs.Prelude.{ℕ, suc, ◌+◌, ◌*◌, Bool, ◌&&◌, not, cond, List, [], ◌∷◌, eqb, length}
use Rattle.charset.specs.Table.{rep}
use Rattle.forwarding.specs.Text.{text_at}

-- by a table r, and by which places are text: the bytes, of which the first stands at place i
abbrev pub fwd : (ℕ → ℕ) → (ℕ → Bool) → ℕ → List ℕ → List ℕ
fwd r is_text i [] = []
fwd r is_text i (b ∷ bytes) = cond (is_text i) (r b) b ∷ fwd r is_text (suc i) bytes

-- the byte b at place i is changed
abbrev pub differs : (ℕ → ℕ) → (ℕ → Bool) → ℕ → ℕ → Bool
differs r is_text i b = is_text i && not (eqb (r b) b)

abbrev pub notes : (ℕ → ℕ) → (ℕ → Bool) → ℕ → List ℕ → List ℕ
notes r is_text i [] = []
notes r is_text i (b ∷ bytes) = cond (differs r is_text i b) ((i * 256 + b) ∷ notes r is_text (suc i) bytes) (notes r is_text (suc i) bytes)

-- of a whole file, on a code page
unfoldable pub forwarded : ℕ → List ℕ → List ℕ
forwarded page file = fwd (rep page) (text_at (length file)) 0 file

unfoldable pub notes_of : ℕ → List ℕ → List ℕ
notes_of page file = notes (rep page) (text_at (length file)) 0 file
