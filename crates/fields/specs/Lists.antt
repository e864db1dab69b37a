-- Document 01, lent lists: "Country lists are lent bytes: two bytes a country, a lone last byte ignored, any content
-- allowed." (RULES 5.5) "Taken numbers are lent as a list of 64-bit numbers." (RULES 5.6)
use Rattle.std.specs.Prelude.{ℕ, Bool, false, ◌&&◌, ◌||◌, List, [], ◌∷◌, eqb}

-- an element passes the test
abbrev pub some : {A : Type 0} → (A → Bool) → List A → Bool
some test [] = false
some test (x ∷ s) = test x || some test s

abbrev pub countries : List ℕ → List (ℕ × ℕ)
countries [] = []
countries (x ∷ []) = []
countries (x ∷ (y ∷ list)) = (x, y) ∷ countries list

-- a b is a country of the list
unfoldable pub is_listed : List ℕ → ℕ → ℕ → Bool
is_listed list a b = some (λ (country : ℕ × ℕ). eqb country.0 a && eqb country.1 b) (countries list)

-- n stands in the list
unfoldable pub is_taken : List ℕ → ℕ → Bool
is_taken list n = some (λ (number : ℕ). eqb number n) list
