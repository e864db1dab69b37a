-- A take's result as the book's callers have it: the number of a refusal, or 0, and the book after it.
use Rattle.std.specs.Prelude.{ℕ, Result, Ok, Err}
use Rattle.book.specs.declared.Book.{Book}
use Rattle.book.specs.declared.Taken.{Taken}
use Rattle.book.specs.declared.Refusal.{Refusal}
use Rattle.book.specs.declared.Refusal.TheVariants.{Held, Full, TooEarly, TooLarge}
use Rattle.book.specs.Kept.{answered}

abbrev pub number_of : Refusal → ℕ
number_of Held = 50
number_of Full = 51
number_of TooEarly = 52
number_of TooLarge = 53

-- a refused take leaves the book b
abbrev pub told : Book → Result Book Refusal → Taken
told b (Ok book) = answered book 0
told b (Err why) = answered b (number_of why)
