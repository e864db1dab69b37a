use Rattle.std.proofs.Common.{◌≡◌, length, sym, ◌∙◌, eqb-true, rules}
use Rattle.std.proofs.lemmas.Bool.{eqb-false}
use Rattle.book.specs.Laws.{unmapped}
use Rattle.book.proofs.Taking.{asked, is_held, is_full, has_room, tells_taken}
use Rattle.book.proofs.Book.after.Goals as goal

pub returns-then-holds : goal.returns-then-holds
returns-then-holds c =
    is_held _ _ (asked c.is_too_large.ensures c.if-is_too_large.false c.if-entry-self.false c.on-kept.ensures c.holds.ensures) c.if-holds.true

pub returns-then-is_full : goal.returns-then-is_full
returns-then-is_full c =
    is_full _ _ (asked c.is_too_large.ensures c.if-is_too_large.false c.if-entry-self.false c.on-kept.ensures c.holds.ensures)
    c.if-holds.false
    (eqb-true _ 200 (sym c.is_full.ensures ∙ c.if-is_full.true))

pub put-requires : goal.put-requires
put-requires c =
    let long : length c.args.self.places ≡ 200 = search (rules, unmapped) in
    has_room c.args.self c.args.entry
    (asked c.is_too_large.ensures c.if-is_too_large.false c.if-entry-self.false c.on-kept.ensures c.holds.ensures)
    long
    (eqb-false _ 200 (sym c.is_full.ensures ∙ c.if-is_full.false))

pub returns : goal.returns
returns c =
    let long : length c.args.self.places ≡ 200 = search (rules, unmapped) in
    tells_taken _ _ (asked c.is_too_large.ensures c.if-is_too_large.false c.if-entry-self.false c.on-kept.ensures c.holds.ensures)
    long
    (eqb-false _ 200 (sym c.is_full.ensures ∙ c.if-is_full.false))
    c.if-holds.false
    c.put.ensures
