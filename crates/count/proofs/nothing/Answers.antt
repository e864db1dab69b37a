use Rattle.std.proofs.Common.{sym, ap, ◌∙◌, rules, eqb-true, eq-eqb}
use Rattle.std.proofs.lemmas.Bool.{eqb-false}
use Rattle.forwarding.specs.Text.{q_texts, t_texts}
use Rattle.forwarding.specs.Fields.{field_changes}
use Rattle.forwarding.specs.Turns.{turn_is, turn_before, turn_last, turn_next}
use Rattle.count.specs.Counting.{count_first, count_next, count_some, next_some, count_all}
use Rattle.count.proofs.nothing.Goals as goal

pub returns-then-q_record-ne0 : goal.returns-then-q_record-ne0
returns-then-q_record-ne0 c =
    count_some c.requires (count_first c.requires (c.q_record.ensures ∙ ap (field_changes q_texts) (search rules))) c.if-q_record-ne0.true

pub loop-t-init : goal.loop-t-init
loop-t-init c = count_first c.requires (sym c.if-q_record-ne0.false ∙ c.q_record.ensures ∙ ap (field_changes q_texts) (search rules))

pub returns-then-not-t_none : goal.returns-then-not-t_none
returns-then-not-t_none c =
    let ts = c.t_records-all.ensures in
    let more = c.loop-t-test.true in
    next_some c.requires c.loop-t.invariant (turn_before c.requires ts more)
    (λ none. eqb-false _ 0 (sym c.t_none.ensures ∙ c.if-not-t_none.true) (ap (field_changes t_texts) (turn_is c.requires ts more) ∙ none))

pub loop-t-preserved : goal.loop-t-preserved
loop-t-preserved c =
    let ts = c.t_records-all.ensures in
    let more = c.loop-t-test.true in
    let none = eqb-true _ 0 (sym c.t_none.ensures ∙ c.if-not-t_none.false) in
    rw (turn_next c.loop-t.t-index)
    (count_next c.requires c.loop-t.invariant (turn_before c.requires ts more)
    (sym none ∙ ap (field_changes t_texts) (turn_is c.requires ts more)))

pub returns : goal.returns
returns c =
    let ts = c.t_records-all.ensures in
    λ page. sym (eq-eqb _ 0 (sym (count_all c.requires c.loop-t.invariant (turn_last c.requires ts c.loop-t-test.false) page)))
