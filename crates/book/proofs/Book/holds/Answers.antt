use Rattle.std.proofs.Common.{Bool, nat_eq, rules}
use Rattle.std.proofs.lemmas.Iterator.{YieldsList-from_slice}
use Rattle.std.proofs.lemmas.Iterator.Search.{any_from_yields_List}
use Rattle.fields.specs.Laws.{some_is}
use Rattle.book.specs.declared.Entry.{Entry}
use Rattle.book.specs.Kept.{held_in}
use Rattle.book.proofs.Book.holds.Goals as goal

pub returns : goal.returns
returns c =
    let has : Entry → Bool = λ (e : Entry). nat_eq e.number c.args.number in
    rw some_is (any_from_yields_List has _ _ _ c.any.ensures.ran (YieldsList-from_slice (held_in c.args.self.now) cc) (λ x b q k. search rules))
