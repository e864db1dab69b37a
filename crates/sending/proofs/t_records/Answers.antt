use Rattle.std.proofs.Common.{◌≡◌, ◌+◌, ◌<◌, sym, subst, arith, lit<, ℕ, List, [], get_or}
use Rattle.laws.specs.Found.{nonzero, or_zero}
use Rattle.structure.specs.Slots.{slot_at}
use Rattle.sorting.specs.Kept.{rule_in}
use Rattle.sorting.specs.Frame.{fit, sized, turns_count, turn_slot, turn_told, t_there}
use Rattle.sending.specs.Turns.{RoomFor, paid_is}
use Rattle.sending.specs.Sending.{send_first, one_room, one_sent, send_last}
use Rattle.sending.proofs.t_records.Goals as goal
use Rattle.sending.proofs.t_records.Goals.{After-first_rule-rule}

pub whole-requires : goal.whole-requires
whole-requires c =
    let e = c.requires.0.1 in
    (lit< tt, t_there c.args.file.now c.requires.0.0 e 1 (omega arith) (fit c.args.file.now c.requires.0.0 e).some)

pub t_records-t-items-requires : goal.t_records-t-items-requires
t_records-t-items-requires c = sized c.args.file.now c.requires.0.0 c.requires.0.1

pub loop-i-init : goal.loop-i-init
loop-i-init c =
    let a = c.args in
    let t = a.terms.now in
    send_first t.page a.file.now t.transfer.now t.cheque.now c.requires.0.0 c.requires.0.1 a.have a.out.now a.notes.now a.list.now c.requires.1

-- the payment of this turn, and what `first_rule` says of it
more : (c : After-first_rule-rule) → c.loop-i.i < c.requires.0.0
more c = omega (arith, turns_count c.args.file.now c.requires.0.0 c.requires.0.1 c.t_records-t-items.ensures)

is : (c : After-first_rule-rule) → get_or c.t_records-t-items.result.now c.loop-i.i [] ≡ slot_at c.args.file.now (c.loop-i.i + 1)
is c = turn_slot c.args.file.now c.requires.0.0 c.requires.0.1 c.t_records-t-items.ensures c.loop-i.i (more c)

told : (c : After-first_rule-rule)
    → let t = c.args.terms.now in
    c.first_rule-rule.result ≡ nonzero (rule_in t.page c.args.file.now t.transfer.now t.cheque.now (slot_at c.args.file.now (c.loop-i.i + 1)))
told c =
    turn_told c.args.file.now c.requires.0.0 c.requires.0.1 c.t_records-t-items.ensures _ _ _ c.loop-i.i (more c)
    c.key-key.ensures.bytes c.whole.ensures c.first_rule-rule.ensures

pub payment-next-requires : goal.payment-next-requires
payment-next-requires c =
    let a = c.args in
    let t = a.terms.now in
    let l = c.loop-i in
    let at = (goal.at.payment-next-requires c).After-first_rule-rule in
    let room = one_room _ _ _ _ _ c.requires.0.1 _ _ _ _ c.requires.1 l.i (more at) l.invariant _ (told at) in
    (room.0, subst (λ (t : List ℕ). RoomFor t (l.i + 1) (or_zero c.first_rule-rule.result) l.next l.out l.notes l.list) (sym (is at)) room.1)

pub loop-i-preserved : goal.loop-i-preserved
loop-i-preserved c =
    let a = c.args in
    let t = a.terms.now in
    let l = c.loop-i in
    let at = (goal.at.loop-i-preserved c).After-first_rule-rule in
    one_sent _ _ _ _ _ c.requires.0.1 _ _ _ _ c.requires.1 l.i (more at) l.invariant _ (told at)
    (paid_is (is at) c.payment-next.ensures)

pub returns : goal.returns
returns c =
    let a = c.args in
    let t = a.terms.now in
    let all = turns_count a.file.now c.requires.0.0 c.requires.0.1 c.t_records-t-items.ensures in
    send_last t.page a.file.now t.transfer.now t.cheque.now c.requires.0.0 c.requires.0.1 a.have a.out.now a.notes.now a.list.now c.requires.1 c.loop-i.i
    (omega (arith, all)) c.loop-i.invariant (omega (arith, all))
