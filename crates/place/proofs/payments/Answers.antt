use Rattle.std.proofs.Common.{◌+◌, ap, ◌∙◌, List, ℕ, arith, length}
use Rattle.charset.specs.Table.{rep}
use Rattle.forwarding.specs.Text.{lies, t_texts}
use Rattle.forwarding.specs.Forwarded.{fwd}
use Rattle.forwarding.specs.Noted.{noted_is}
use Rattle.forwarding.specs.Fields.{field_notes}
use Rattle.forwarding.specs.Between.{between_long}
use Rattle.forwarding.specs.Sized.{fits}
use Rattle.forwarding.specs.Turns.{turn, turn_is, turn_before, turn_last, turn_next}
use Rattle.note.specs.Noting.{note_first, note_room, note_next, note_last}
use Rattle.place.specs.Placing.{place_first, place_next, place_last}
use Rattle.place.proofs.payments.Goals as goal

pub loop-k-init : goal.loop-k-init
loop-k-init c = record { placed = place_first _ c.requires.0 c.requires.1; noted = note_first c.requires.0 c.requires.2 }

pub slice_bounds-t_record-end : goal.slice_bounds-t_record-end
slice_bounds-t_record-end c =
    let l = c.loop-k in
    let more = turn_before c.requires.0 c.t_records-t-items.ensures c.loop-k-test.true in
    omega (arith, fits c.requires.0 l.invariant.placed.begins more, l.auto.out, c.requires.1)

pub t_record-n-requires : goal.t_record-n-requires
t_record-n-requires c =
    let l = c.loop-k in
    let ts = c.t_records-t-items.ensures in
    let more = turn_before c.requires.0 ts c.loop-k-test.true in
    let here = turn_is c.requires.0 ts c.loop-k-test.true in
    let end = fits c.requires.0 l.invariant.placed.begins more in
    let notes = ap (λ (rec : List ℕ). length (field_notes t_texts (turn l.k) rec)) here in (
      omega (arith, between_long (turn l.k) (turn l.k + 768) l.out (omega (arith, end, l.auto.out, c.requires.1))),
      omega (arith, end, c.requires.0.long, c.requires.0.most),
      omega (arith, notes, note_room c.requires.0 c.requires.2 l.invariant.noted more),
    )

pub loop-k-preserved : goal.loop-k-preserved
loop-k-preserved c =
    let a = c.args in
    let l = c.loop-k in
    let ts = c.t_records-t-items.ensures in
    let more = turn_before c.requires.0 ts c.loop-k-test.true in
    let here = turn_is c.requires.0 ts c.loop-k-test.true in
    let put = c.t_record-n.ensures in
    let sent = put.output ∙ ap (fwd (rep a.page) (lies t_texts) 0) here in
    let noted = noted_is (ap (field_notes t_texts (turn l.k)) here) put.noted in
    record {
      placed = rw (turn_next l.k) (place_next a.page c.requires.0 c.requires.1 l.invariant.placed _ more sent);
      noted = rw (turn_next l.k) (note_next c.requires.0 c.requires.2 l.invariant.noted more noted);
    }

pub returns-clause-output : goal.returns-clause-output
returns-clause-output c =
    let done = turn_last c.requires.0 c.t_records-t-items.ensures c.loop-k-test.false in
    place_last _ c.requires.0 c.requires.1 c.loop-k.invariant.placed done

pub returns-clause-noted : goal.returns-clause-noted
returns-clause-noted c =
    let done = turn_last c.requires.0 c.t_records-t-items.ensures c.loop-k-test.false in
    note_last c.requires.0 c.requires.2 c.loop-k.invariant.noted done
