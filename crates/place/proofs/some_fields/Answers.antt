use Rattle.std.proofs.Common.{◌+◌, ◌≤◌, ◌<◌, ◌++◌, sym, ◌∙◌, eqb-true, rules, arith}
use Rattle.forwarding.specs.Fields.{none_within, no_notes, fields_kept}
use Rattle.forwarding.specs.Numbered.{texts_from}
use Rattle.forwarding.specs.Noted.{noted_none, noted_is}
use Rattle.forwarding.specs.Found.{t_in, t_before}
use Rattle.place.specs.Placing.{replaced_more, notes_all_fit, noted_from}
use Rattle.place.proofs.some_fields.Goals as goal

pub returns-then-none-clause-output : goal.returns-then-none-clause-output
returns-then-none-clause-output c = λ ss so_far.
    let a = c.args in
    let lie = c.requires.2 in
    let none = eqb-true _ 0 (sym c.none.ensures ∙ c.if-none.true) in
    let us = texts_from a.numbers.start a.numbers.end in
    fields_kept a.page ss us a.from (a.from + 320) a.rec.now a.part.now lie.there (omega (arith, lie.inside)) none so_far

pub returns-then-none-clause-noted : goal.returns-then-none-clause-noted
returns-then-none-clause-noted c =
    let a = c.args in
    let us = texts_from a.numbers.start a.numbers.end in
    let none = eqb-true _ 0 (sym c.none.ensures ∙ c.if-none.true) in
    noted_is (sym (no_notes us a.at a.rec.now (none_within a.from (a.from + 320) us a.rec.now c.requires.2.there none))) (noted_none a.have a.notes.now)

pub field-n-requires : goal.field-n-requires
field-n-requires c =
    let a = c.args in
    let lie = c.requires.2 in
    let l = c.loop-k in
    let more = c.loop-k-test.true in
    let low : 2 ≤ l.k = omega (arith, lie.low) in
    let high : l.k < 10 = omega (arith, lie.high) in
    let at = c.text.ensures in
    let fit = notes_all_fit a.page a.rec.now a.numbers.start l.k low high (search rules) at a.at a.numbers.end more lie.high in (
      (t_in l.k low high at a.rec.now (search rules)).0,
      omega (arith, t_before l.k low high at),
      omega (arith, c.requires.0),
      omega (arith, c.requires.1),
      omega (arith, c.requires.3, l.invariant.noted.next_is, fit),
    )

pub loop-k-preserved : goal.loop-k-preserved
loop-k-preserved c =
    let a = c.args in
    let lie = c.requires.2 in
    let l = c.loop-k in
    let more = c.loop-k-test.true in
    let low : 2 ≤ l.k = omega (arith, lie.low) in
    let high : l.k < 10 = omega (arith, lie.high) in
    let behind : a.numbers.start ≤ l.k = omega arith in
    let at = c.text.ensures in
    let put = c.field-n.ensures in
    let first = a.numbers.start in
    record {
      output = λ ss so_far.
          put.output (ss ++ texts_from first l.k) (l.invariant.output ss so_far) ∙ replaced_more a.page a.rec.now first l.k low high behind at ss;
      noted = noted_from a.page a.rec.now first l.k low high behind at a.at a.numbers.end more lie.high c.requires.3 l.invariant.noted put.noted;
    }
