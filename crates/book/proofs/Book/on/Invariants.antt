use Rattle.std.proofs.Common.{◌≡◌, take}
use Rattle.book.specs.Model.{model, held_on}
use Rattle.book.specs.Kept.{book_of}
use Rattle.book.proofs.Book.on.Given as goal

abbrev pub invariant-loop-entry : goal.invariant-loop-entry
invariant-loop-entry l = l.kept ≡ book_of (model l.day (held_on l.day (take l.entry-index l.entry-items)))
