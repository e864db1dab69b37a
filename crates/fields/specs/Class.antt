-- What the bytes of a field may be: "digit", "zeros", "spaces", "capitals", "capitals or digits" of document 01's rules
-- (RULES 5.1). A text field is read after replacement: `all_of Capital (text page s)`. "Blank" means all spaces after
-- replacement (RULES 3.2).
use Rattle.std.specs.Prelude.{ℕ, Bool, true, false, ◌&&◌, ◌||◌, List, [], ◌∷◌, eqb}
use Prim.Native.Char.{code}
use Rattle.charset.specs.Table.{within, text}
use Rattle.fields.specs.declared.Class.{Class}
use Rattle.fields.specs.declared.Class.TheVariants.{Digit, Zero, Space, Capital, CapitalOrDigit}

abbrev pub member : Class → ℕ → Bool
member Digit b = within (code "0") (code "9") b
member Zero b = eqb b (code "0")
member Space b = eqb b (code " ")
member Capital b = within (code "A") (code "Z") b
member CapitalOrDigit b = within (code "A") (code "Z") b || within (code "0") (code "9") b

-- each element passes the test
abbrev pub every : {A : Type 0} → (A → Bool) → List A → Bool
every test [] = true
every test (x ∷ s) = test x && every test s

unfoldable pub all_of : Class → List ℕ → Bool
all_of c s = every (member c) s

unfoldable pub blank : ℕ → List ℕ → Bool
blank page s = all_of Space (text page s)

-- the two lists are the same
unfoldable pub same : List ℕ → List ℕ → Bool
same [] [] = true
same [] (y ∷ t) = false
same (x ∷ s) [] = false
same (x ∷ s) (y ∷ t) = eqb x y && same s t
