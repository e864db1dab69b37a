use Rattle.std.proofs.Common.{◌≤◌, length, rules, arith}
use Rattle.forwarding.specs.Forwarded.{notes_of}
use Rattle.prepare.specs.Outcome.{enough_places, sent_60, sent_61, sent_0}
use Rattle.prepare.proofs.send.Goals as goal

pub returns-in_err-room-clause-answer : goal.returns-in_err-room-clause-answer
returns-in_err-room-clause-answer c = search (rules, sent_60)

pub file-requires : goal.file-requires
file-requires c = search (rules, enough_places)

pub returns-then-enough-notes-clause-answer : goal.returns-then-enough-notes-clause-answer
returns-then-enough-notes-clause-answer c =
    let a = c.args in
    let places : length (notes_of a.page a.file.now) ≤ length a.notes.now = search (rules, enough_places) in
    search (rules, sent_0 a.page a.file.now a.out.now a.notes.now)

-- or their number is known first
pub returns-in_err-room-2-clause-answer : goal.returns-in_err-room-2-clause-answer
returns-in_err-room-2-clause-answer c =
    let changes = c.file-changes.ensures c.args.page in
    search (rules, sent_61)

pub returns-clause-answer : goal.returns-clause-answer
returns-clause-answer c =
    let a = c.args in
    let places : length (notes_of a.page a.file.now) ≤ length a.notes.now = omega (arith, c.file-changes.ensures a.page) in
    search (rules, sent_0 a.page a.file.now a.out.now a.notes.now)
