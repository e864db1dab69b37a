use Rattle.std.proofs.Common.{ℕ, ◌≤◌, ◌≡◌, List, refl, ap, ◌∙◌, rules, arith, length}
use Rattle.charset.specs.Table.{rep}
use Rattle.forwarding.specs.Text.{lies, q_texts}
use Rattle.forwarding.specs.Forwarded.{fwd, notes_of}
use Rattle.forwarding.specs.Fields.{field_notes}
use Rattle.forwarding.specs.Changes.{notes_page}
use Rattle.forwarding.specs.Between.{between, between_long}
use Rattle.forwarding.specs.Noted.{noted_is}
use Rattle.note.specs.Noting.{q_room, t_room, note_all}
use Rattle.place.specs.Placing.{q_same, place_z}
use Rattle.place.proofs.file.Goals as goal

-- the notes are as many on page 0
room : (page : ℕ) (file ps : List ℕ) → length (notes_of page file) ≤ length ps → length (notes_of 0 file) ≤ length ps
room page file ps h = omega (arith, ap length (notes_page 0 page file))

pub q_record-have-requires : goal.q_record-have-requires
q_record-have-requires c =
    let a = c.args in
    let sized = c.requires.0 in
    let q : c.unwrap-q.result.now ≡ between 0 256 a.file.now = search rules in
    let notes = ap (λ (rec : List ℕ). length (field_notes q_texts 0 rec)) q in (
      between_long 0 256 a.out.now (omega (arith, sized.long, c.requires.1)),
      omega (arith, notes, q_room a.file.now a.notes.now sized (room a.page a.file.now a.notes.now c.requires.2)),
    )

pub payments-n-requires : goal.payments-n-requires
payments-n-requires c =
    let a = c.args in
    let sized = c.requires.0 in
    let q : c.unwrap-q.result.now ≡ between 0 256 a.file.now = search rules in
    let put = c.q_record-have.ensures in
    let sent = put.output ∙ ap (fwd (rep a.page) (lies q_texts) 0) q in
    let noted = noted_is (ap (field_notes q_texts 0) q) put.noted in (
      sized,
      omega (arith, c.requires.1, q_same a.page a.file.now a.out.now sized c.requires.1 _ sent refl),
      t_room a.file.now a.notes.now sized (room a.page a.file.now a.notes.now c.requires.2) noted,
    )

pub returns-clause-output : goal.returns-clause-output
returns-clause-output c =
    let a = c.args in
    let q : c.unwrap-q.result.now ≡ between 0 256 a.file.now = search rules in
    let sent = c.q_record-have.ensures.output ∙ ap (fwd (rep a.page) (lies q_texts) 0) q in
    place_z a.page a.file.now a.out.now c.requires.0 c.requires.1 _ sent refl c.payments-n.ensures.output _ c.copy_from_slice.ensures.after

pub returns-clause-noted : goal.returns-clause-noted
returns-clause-noted c =
    let a = c.args in
    let q : c.unwrap-q.result.now ≡ between 0 256 a.file.now = search rules in
    let noted = noted_is (ap (field_notes q_texts 0) q) c.q_record-have.ensures.noted in
    note_all a.file.now a.notes.now c.requires.0 (room a.page a.file.now a.notes.now c.requires.2) noted c.payments-n.ensures.noted a.page
