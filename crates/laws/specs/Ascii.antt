-- Quoted text in specs as the bytes that a file holds: `ascii "EUR"` is 69, 85, 82. `code "A"` is 65. And so many zeros, and so
-- many spaces.
use Rattle.std.specs.Prelude.{ℕ, List, [] as none, ◌∷◌ as ◌then◌, replicate}
use Prim.Native.Char.{code}
use Prim.Native.String.{String, [], ◌∷◌}

abbrev pub ascii : String → List ℕ
ascii [] = none
ascii (c ∷ s) = code c then ascii s

abbrev pub zeros : ℕ → List ℕ
zeros n = replicate n (code "0")

abbrev pub spaces : ℕ → List ℕ
spaces n = replicate n (code " ")
