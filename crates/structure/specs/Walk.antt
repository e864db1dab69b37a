-- Document 01, "Walk, at each record" (RULES 4.1), in its order: fewer than 5 bytes left 2, letter not allowed here 4,
-- length digits wrong for the letter 3, fewer bytes left than the length 2, bytes after Z 5. Before anything else, a file
-- longer than 7,679,744 bytes is 1 at record 0.
use Rattle.std.specs.Prelude.{ℕ, ◌-◌, Bool, ◌&&◌, ◌||◌, not, cond, List, eqb, leb, ltb, length, get_or, take, drop}
use Prim.Native.Char.{code}
use Rattle.laws.specs.Ascii.{ascii}
use Rattle.laws.specs.Scan.{first}
use Rattle.fields.specs.Class.{same}
use Rattle.structure.specs.Slots.{slot_at}
use Rattle.structure.specs.Shape.{Shape, Fits, Refused}

abbrev pub digits_of : List ℕ → List ℕ
digits_of slot = take 4 (drop 0 slot)

abbrev pub letter_of : List ℕ → ℕ
letter_of slot = get_or slot 4 0

-- only Q at record 0, only T at record 1, T or Z later
abbrev pub allowed : ℕ → ℕ → Bool
allowed k letter = cond (eqb k 0) (eqb letter (code "Q")) (eqb letter (code "T") || (eqb letter (code "Z") && leb 2 k))

-- "Each kind of record has one letter and one length: Q 256, T 768, Z 256." (RULES 2.1)
abbrev pub length_for : ℕ → ℕ
length_for letter = cond (eqb letter (code "T")) 768 256

abbrev pub digits_for : ℕ → List ℕ
digits_for letter = cond (eqb letter (code "T")) (ascii "0768") (ascii "0256")

-- what breaks at record k, by its slot; 0 for a whole record
unfoldable pub fault_in : ℕ → List ℕ → ℕ
fault_in k slot =
    cond (ltb (length slot) 5) 2
    (cond (allowed k (letter_of slot))
    (cond (same (digits_of slot) (digits_for (letter_of slot)))
    (cond (ltb (length slot) (length_for (letter_of slot))) 2
    (cond (eqb (letter_of slot) (code "Z") && ltb 256 (length slot)) 5 0))
    3)
    4)

-- the walk ends at the first record that is broken, or is a Z
abbrev pub stops : List ℕ → ℕ → Bool
stops file k = not (eqb (fault_in k (slot_at file k)) 0) || eqb (letter_of (slot_at file k)) (code "Z")

-- what it tells there: Z is whole, with k - 1 T records before it; or the refusal
abbrev pub told : List ℕ → ℕ → Shape
told file k = cond (eqb (fault_in k (slot_at file k)) 0) (Fits (k - 1)) (Refused (fault_in k (slot_at file k)) k)

-- Records 0 to 10,000 are all that 7,679,744 bytes can hold: that the walk always ends there is part of `tells` of Fits
unfoldable pub structure_of : List ℕ → Shape
structure_of file =
    cond (ltb 7679744 (length file)) (Refused 1 0) (first (stops file) (told file) (Refused 2 10001) 0 10001)
