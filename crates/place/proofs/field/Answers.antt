use Rattle.std.proofs.Common.{ap, arith, length}
use Rattle.forwarding.specs.Fields.{field_more, field_kept}
use Rattle.forwarding.specs.Noted.{noted_is}
use Rattle.place.specs.Placing.{there_long, its_notes, not_noted}
use Rattle.place.proofs.field.Goals as goal

pub field-n-requires : goal.field-n-requires
field-n-requires c =
    let a = c.args in
    let h = c.requires.0 in
    let l = c.requires.1 in (
      omega (arith, there_long a.text a.rec.now h l),
      omega (arith, c.requires.3),
      omega (arith, c.requires.4, ap length (its_notes a.text a.rec.now h l a.at)),
    )

pub returns-then-n-have-clause-output : goal.returns-then-n-have-clause-output
returns-then-n-have-clause-output c = λ ss so_far.
    let a = c.args in
    field_more a.page ss a.text a.rec.now a.part.now _ c.requires.0 (omega (arith, c.requires.1, c.requires.2)) so_far c.replace.ensures

pub returns-then-n-have-clause-noted : goal.returns-then-n-have-clause-noted
returns-then-n-have-clause-noted c =
    let a = c.args in
    noted_is (its_notes a.text a.rec.now c.requires.0 c.requires.1 a.at) c.field-n.ensures

pub returns-else-n-have-clause-output : goal.returns-else-n-have-clause-output
returns-else-n-have-clause-output c = λ ss so_far.
    let a = c.args in
    let noted = noted_is (its_notes a.text a.rec.now c.requires.0 c.requires.1 a.at) c.field-n.ensures in
    let none = not_noted a.text a.rec.now c.requires.0 c.requires.1 a.at noted c.if-n-have.false in
    field_kept a.page ss a.text a.rec.now a.part.now c.requires.0 (omega (arith, c.requires.1)) so_far none

pub returns-else-n-have-clause-noted : goal.returns-else-n-have-clause-noted
returns-else-n-have-clause-noted c =
    let a = c.args in
    noted_is (its_notes a.text a.rec.now c.requires.0 c.requires.1 a.at) c.field-n.ensures
