use Rattle.std.proofs.Common.{◌+◌, ◌∙◌, ap, rules, arith}
use Rattle.forwarding.specs.Text.{q_texts, t_texts}
use Rattle.forwarding.specs.Fields.{field_changes}
use Rattle.forwarding.specs.Turns.{turn, turn_is, turn_before, turn_last, turn_next}
use Rattle.count.specs.Counting.{Counted, count_first, count_next, count_few, count_all}
use Rattle.count.proofs.file.Goals as goal

pub loop-t-init : goal.loop-t-init
loop-t-init c = count_first c.requires (c.q_record-n.ensures ∙ ap (field_changes q_texts) (search rules))

one_more : (c : goal.After-t_record-n) → Counted c.args.file.now (c.loop-t.n + c.t_record-n.result) (turn c.loop-t.t-index + 768)
one_more c =
    let ts = c.t_records-t-items.ensures in
    let more = c.loop-t-test.true in
    count_next c.requires c.loop-t.invariant (turn_before c.requires ts more)
    (c.t_record-n.ensures ∙ ap (field_changes t_texts) (turn_is c.requires ts more))

pub loop-t-preserved : goal.loop-t-preserved
loop-t-preserved c = rw (turn_next c.loop-t.t-index) (one_more c)

pub overflow_add-n : goal.overflow_add-n
overflow_add-n c =
    let sized = c.requires in
    omega (arith, count_few sized (one_more c), (one_more c).begins.high, sized.long, sized.most)

pub returns : goal.returns
returns c =
    count_all c.requires c.loop-t.invariant (turn_last c.requires c.t_records-t-items.ensures c.loop-t-test.false)
