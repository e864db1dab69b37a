-- Document 02, A8 (RULES 9.11): the totals that a book holds.
use Rattle.std.specs.Prelude.{ℕ, ◌≡◌, List, length}
use Rattle.laws.specs.Steps.{fold}
use Rattle.book.specs.declared.Entry.{Entry}
use Rattle.book.specs.declared.Book.{Book}
use Rattle.book.specs.declared.Totals.{Totals}
use Rattle.book.specs.Model.{empty, held_on, payments_of, euros_of, after}
use Rattle.book.specs.Kept.{TotalsAs}
use Rattle.demands.specs.Settled.{Settled}
use Rattle.keeping.specs.Keeping.{Takes, added}

-- how many files, and both sums over them
abbrev pub sums : List Entry → Totals
sums es = record { files = length es; payments = payments_of es; euros = euros_of es }

-- "After any calls the stored totals equal the sums over the held pairs of A7": of the model, after any takes from a new book
abbrev pub TotalsAreSums : Type 0
TotalsAreSums =
    (es : List Entry) (answers : List ℕ) (last : Book) (totals : Totals) → Takes es answers last → TotalsAs last totals
    → totals ≡ sums (fold after empty es).held

-- and of the plain set, from which no pair is ever removed: over those that are held on the book's day
abbrev pub TotalsOfPlainSet : Type 0
TotalsOfPlainSet =
    (es : List Entry) (answers : List ℕ) (last : Book) (totals : Totals) → Takes es answers last → TotalsAs last totals
    → totals ≡ sums (held_on last.day (fold added empty es).held)

-- any two permitted outcomes coincide, whatever book is handed in
abbrev pub TotalsSettled : Type 0
TotalsSettled = (b : Book) → Settled (λ (o : Totals). TotalsAs b o)
