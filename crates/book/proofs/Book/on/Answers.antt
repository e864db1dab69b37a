use Rattle.std.proofs.Common.{ℕ, ◌≡◌, ◌<◌, List, length, get_or, take, ap, ◌∙◌, arith, length-take, rules}
use Rattle.laws.specs.Choice.{on_call, off_call}
use Rattle.book.specs.Model.{model, held_on}
use Rattle.book.specs.declared.Entry.{Entry}
use Rattle.book.specs.declared.Book.{Book}
use Rattle.book.specs.Kept.{entry_of, book_of, held_in}
use Rattle.book.specs.Laws.{unmapped, held_few, unless_forgotten, keeps_next}
use Rattle.book.proofs.Book.on.Goals as goal
use Rattle.book.proofs.Book.on.Goals.{then-not-is_forgotten, else-not-is_forgotten}

-- no more entries are read than there are places
few : (b : Book) (es : List Entry) (i : ℕ) → length b.places ≡ 200 → es ≡ held_in b → i < length es → i < 200
few b es i long e h = omega (arith, h, ap length e, length-take b.held b.places, long)

-- so a place is free: no more are kept than were looked at
room : (day : ℕ) (es : List Entry) (i : ℕ) (kept : Book) → kept ≡ book_of (model day (held_on day (take i es))) → i < 200 → kept.held < 200
room day es i kept e h = omega (arith, ap (λ (b : Book). b.held) e, held_few day (take i es), length-take i es)

pub put-requires : goal.put-requires
put-requires c =
    let l = c.loop-entry in
    let long : length c.args.self.places ≡ 200 = search (rules, unmapped) in
    room c.args.day _ l.entry-index l.kept l.invariant (few c.args.self _ l.entry-index long c.filled-entry-items.ensures c.loop-entry-test.true)

pub loop-entry-preserved : goal.loop-entry-preserved
loop-entry-preserved c =
    let l = c.loop-entry in
    let day = c.args.day in
    let es = c.filled-entry-items.result.now in
    let e = get_or es l.entry-index (entry_of 0 0 0 0) in
    let long : length c.args.self.places ≡ 200 = search (rules, unmapped) in
    let below = few c.args.self es l.entry-index long c.filled-entry-items.ensures c.loop-entry-test.true in
    let kept : c.if-not-is_forgotten.kept ≡ unless_forgotten day l.kept e =
    elim c.if-not-is_forgotten.branch [
      | then-not-is_forgotten w ↦ off_call _ c.is_forgotten.ensures w.if-not-is_forgotten.true (w.kept-is ∙ w.put.ensures)
      | else-not-is_forgotten w ↦ on_call _ c.is_forgotten.ensures w.if-not-is_forgotten.false w.kept-is
    ] in
    kept
    ∙ ap (λ (b : Book). unless_forgotten day b e) l.invariant
    ∙ keeps_next es l.entry-index (entry_of 0 0 0 0) c.loop-entry-test.true day below
