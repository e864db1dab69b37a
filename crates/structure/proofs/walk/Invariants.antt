use Rattle.std.specs.Prelude.{ℕ, ◌*◌, ◌-◌, ◌≤◌, ◌≡◌, List, length}
use Rattle.laws.specs.Scan.{first}
use Rattle.structure.specs.Shape.{Shape, Refused}
use Rattle.structure.specs.Walk.{stops, told}
use Rattle.structure.proofs.walk.Given as goal

-- The records before k were passed; what the search from k on tells is what the whole search tells.
abbrev pub from : List ℕ → ℕ → Shape
from file k = first (stops file) (told file) (Refused 2 10001) k 10001

abbrev pub Passed : List ℕ → ℕ → Type 0
Passed file k = (768 * k - 512 ≤ length file) × (from file k ≡ from file 0)

abbrev pub invariant-loop-k : goal.invariant-loop-k
invariant-loop-k l = Passed l.file l.k
