-- What the walk over a file's records finds (document 01): a file that fits, with its number of T records; or the number
-- and the record of a refusal.
use Rattle.std.specs.Prelude.{ℕ}

pub data Shape : Type 0 where
  Fits : (n : ℕ) → Shape
  Refused : (number rec : ℕ) → Shape
