use Rattle.forwarding.specs.Noted.{kept_noted, change_noted, change_room}
use Rattle.note.proofs.character.Goals as goal

pub returns-then-changed-eq1 : goal.returns-then-changed-eq1
returns-then-changed-eq1 c =
    let a = c.args in
    let e = c.changed-changed.ensures in
    let is = c.if-changed-eq1.true in
    rw c.from.ensures
    (change_noted a.place a.b a.have a.notes.now e _ is (change_room a.place a.b a.have a.notes.now e is c.requires.1) c.note_of.ensures)

pub returns-else-changed-eq1 : goal.returns-else-changed-eq1
returns-else-changed-eq1 c =
    let a = c.args in
    rw c.from.ensures (kept_noted a.place a.b a.have a.notes.now c.changed-changed.ensures c.if-changed-eq1.false)
