-- What the code answers, as the number of a rule and as a shape.
use Rattle.std.specs.Prelude.{ℕ, ◌≡◌, refl, Result, Ok, Err}
use Rattle.std.proofs.Common.{arith}
use Rattle.structure.specs.Shape.{Shape, Fits, Refused}
use Rattle.structure.specs.declared.Fault.{Fault}
use Rattle.structure.specs.declared.Fault.TheVariants.{TooLong, CutShort, WrongLength, WrongLetter, BehindZ}
use Rattle.structure.specs.declared.Misfit.{Misfit}

abbrev pub fault_number : Fault → ℕ
fault_number TooLong = 1
fault_number CutShort = 2
fault_number WrongLength = 3
fault_number WrongLetter = 4
fault_number BehindZ = 5

-- what breaks at a record, or 0
abbrev pub found : Result Unit Fault → ℕ
found (Ok _) = 0
found (Err f) = fault_number f

abbrev pub shape_of : Result ℕ Misfit → Shape
shape_of (Ok n) = Fits n
shape_of (Err m) = Refused (fault_number m.fault) m.rec

-- a fault's number is never 0
pub real : (f : Fault) → fault_number f ≡ 0 → ⊥
real TooLong e = omega arith
real CutShort e = omega arith
real WrongLength e = omega arith
real WrongLetter e = omega arith
real BehindZ e = omega arith

-- and what is no fault is 0
pub none : (r : Result Unit Fault) → ((f : Fault) → r ≡ Err f → ⊥) → found r ≡ 0
none (Ok _) n = refl
none (Err f) n = absurd (n f refl)
