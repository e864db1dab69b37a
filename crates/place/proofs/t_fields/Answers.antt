use Rattle.std.proofs.Common.{[], sym, ap, ◌∙◌, arith, length, length-append}
use Rattle.forwarding.specs.Fields.{field_notes}
use Rattle.forwarding.specs.Numbered.{texts_from}
use Rattle.forwarding.specs.Noted.{noted_is, noted_append}
use Rattle.place.specs.Placing.{none_replaced, both_notes}
use Rattle.place.proofs.t_fields.Goals as goal

pub returns-clause-output : goal.returns-clause-output
returns-clause-output c =
    let a = c.args in
    c.some_fields.ensures.output (texts_from 2 5) (c.some_fields-n.ensures.output [] (c.requires.0 ∙ none_replaced a.page a.rec.now))

pub returns-clause-noted : goal.returns-clause-noted
returns-clause-noted c =
    let a = c.args in
    let rec = a.rec.now in
    let sum = length-append (field_notes (texts_from 2 5) a.at rec) (field_notes (texts_from 5 10) a.at rec) in
    noted_is (sym (both_notes a.at rec))
    (noted_append c.some_fields-n.ensures.noted c.some_fields.ensures.noted (omega (arith, c.requires.2, ap length (both_notes a.at rec), sum)))
