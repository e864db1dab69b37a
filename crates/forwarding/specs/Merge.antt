-- Document 01, rule 70 and what restore gives back (RULES 10.3), place by place: the forwarded bytes with each note's
-- byte put back at its place, and which pairs of forwarded bytes and notes there are. Both lists are read by rising
-- place. So a note that falls back, that stands at the place of the one before it, or past the last byte, is never
-- reached, and the pair is refused.
use Rattle.std.specs.Prelude.{ℕ, suc, ◌/◌, ◌%◌, Bool, true, false, ◌&&◌, not, cond, List, [], ◌∷◌, eqb, length}
use Rattle.charset.specs.Table.{rep}
use Rattle.forwarding.specs.Text.{text_at}
use Rattle.forwarding.specs.Forwarded.{differs}

-- the bytes, of which the first stands at place i, with the notes put back
abbrev pub merged : ℕ → List ℕ → List ℕ → List ℕ
merged i [] notes = []
merged i (b ∷ bytes) [] = b ∷ bytes
merged i (b ∷ bytes) (v ∷ notes) =
    cond (eqb (v / 256) i) (v % 256 ∷ merged (suc i) bytes notes) (b ∷ merged (suc i) bytes (v ∷ notes))

-- the byte `was` is changed at place i, and becomes b
abbrev pub becomes : (ℕ → ℕ) → (ℕ → Bool) → ℕ → ℕ → ℕ → Bool
becomes r is_text i was b = differs r is_text i was && eqb (r was) b

-- some bytes, of which the first stands at place i, have these forwarded bytes and these notes
abbrev pub accepts : (ℕ → ℕ) → (ℕ → Bool) → ℕ → List ℕ → List ℕ → Bool
accepts r is_text i [] [] = true
accepts r is_text i [] (v ∷ notes) = false
accepts r is_text i (b ∷ bytes) [] = not (differs r is_text i b) && accepts r is_text (suc i) bytes []
accepts r is_text i (b ∷ bytes) (v ∷ notes) =
    cond (eqb (v / 256) i) (becomes r is_text i (v % 256) b && accepts r is_text (suc i) bytes notes)
    (not (differs r is_text i b) && accepts r is_text (suc i) bytes (v ∷ notes))

-- of a whole forwarded file; which pairs there are depends on the code page, what a pair gives back does not
unfoldable pub original_of : List ℕ → List ℕ → List ℕ
original_of bytes notes = merged 0 bytes notes

unfoldable pub is_pair : ℕ → List ℕ → List ℕ → Bool
is_pair page bytes notes = accepts (rep page) (text_at (length bytes)) 0 bytes notes
