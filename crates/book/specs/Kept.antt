-- The model in a book of 200 places (RULES 9.11), whatever book a call is handed.
use Rattle.std.specs.Prelude.{◌≡◌, ℕ, ◌-◌, ◌%◌, ◌^◌, cond, List, ◌++◌, length, take, replicate, ◌==◌}
use Rattle.book.specs.declared.Entry.{Entry}
use Rattle.book.specs.declared.Book.{Book}
use Rattle.book.specs.declared.Taken.{Taken}
use Rattle.book.specs.declared.Totals.{Totals}
use Rattle.book.specs.Model.{Model, model, empty, payments_of, euros_of, answer_of, after}

abbrev pub entry_of : ℕ → ℕ → ℕ → ℕ → Entry
entry_of number day payments euros = record { number = number; day = day; payments = payments; euros = euros }

-- what is in the first places, as many as the book says; where it says more than 200, in all
abbrev pub held_in : Book → List Entry
held_in b = take b.held b.places

abbrev pub model_of : Book → Model
model_of b = model b.day (held_in b)

-- what is held in the first places, and zeros behind it
abbrev pub places_of : List Entry → List Entry
places_of es = es ++ replicate (200 - length es) (entry_of 0 0 0 0)

-- A8: "the book holds both totals", in 64 bits each. After takes from a new book they are the very sums (keeping/Totals
-- `TotalsAreSums`)
abbrev pub book_of : Model → Book
book_of m =
    record {
      day = m.day;
      held = length m.held;
      payments = payments_of m.held % 2 ^ 64;
      euros = euros_of m.held % 2 ^ 64;
      places = places_of m.held;
    }

unfoldable pub new_of : Book
new_of = book_of empty

abbrev pub answered : Book → ℕ → Taken
answered book number = record { book = book; number = number }

-- a refused take leaves the very book that was handed in
unfoldable pub taken_of : Book → Entry → Taken
taken_of b e = answered (cond (answer_of (model_of b) e == 0) (book_of (after (model_of b) e)) b) (answer_of (model_of b) e)

-- the totals as the book has them, whatever book it is
unfoldable pub totals_of : Book → Totals
totals_of b = record { files = b.held; payments = b.payments; euros = b.euros }

-- what is promised of a new book, of a take and of the totals
abbrev pub NewBookAs : Book → Type 0
NewBookAs b = b ≡ new_of

abbrev pub TakenAs : Book → Entry → Taken → Type 0
TakenAs b e taken = taken ≡ taken_of b e

abbrev pub TotalsAs : Book → Totals → Type 0
TotalsAs b totals = totals ≡ totals_of b
