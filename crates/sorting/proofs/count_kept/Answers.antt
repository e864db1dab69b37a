use Rattle.std.proofs.Common.{ap, subst, ◌∙◌, sym, arith, lit<, ◌≡◌, ◌+◌, ◌<◌, ℕ, not, get_or, []}
use Rattle.forwarding.specs.Text.{q_texts}
use Rattle.forwarding.specs.Fields.{field_changes}
use Rattle.laws.specs.Found.{nonzero}
use Rattle.structure.specs.Slots.{slot_at}
use Rattle.sorting.specs.Kept.{rule_in}
use Rattle.sorting.specs.Frame.{fit, sized, turns_count, turn_slot, turn_told, q_there, t_there}
use Rattle.sorting.specs.Counting.{with_one, CountedIn, counted_q, counted_small, counted_kept, counted_returned, counted_all}
use Rattle.sorting.proofs.count_kept.Goals as goal
use Rattle.sorting.proofs.count_kept.Goals.{then-is_none, else-is_none}

pub whole-requires : goal.whole-requires
whole-requires c = let fits = c.requires in (lit< tt, t_there c.args.file.now fits.0 fits.1 1 (omega arith) (fit c.args.file.now fits.0 fits.1).some)

pub whole-requires-2 : goal.whole-requires-2
whole-requires-2 c = (lit< tt, q_there c.args.file.now c.requires.0 c.requires.1)

pub t_records-t-items-requires : goal.t_records-t-items-requires
t_records-t-items-requires c = sized c.args.file.now c.requires.0 c.requires.1

pub loop-t-init : goal.loop-t-init
loop-t-init c =
    let a = c.args in
    counted_q _ _ _ _ c.requires.0 c.requires.1 (c.q_record.ensures ∙ ap (field_changes q_texts) c.whole-2.ensures)

pub with_one-sum-requires : goal.with_one-sum-requires
with_one-sum-requires c =
    let a = c.args in
    let more : c.loop-t.t-index < c.requires.0 = omega (arith, turns_count a.file.now c.requires.0 c.requires.1 c.t_records-t-items.ensures) in
    counted_small a.terms.now.page a.file.now a.terms.now.transfer.now a.terms.now.cheque.now c.requires.0 c.requires.1 c.loop-t.t-index more c.loop-t.invariant

-- the payment of this turn, and what `first_rule` says of it
more : (c : goal.Joined-is_none) → c.loop-t.t-index < c.requires.0
more c = omega (arith, turns_count c.args.file.now c.requires.0 c.requires.1 c.t_records-t-items.ensures)

is : (c : goal.Joined-is_none) → get_or c.t_records-t-items.result.now c.loop-t.t-index [] ≡ slot_at c.args.file.now (c.loop-t.t-index + 1)
is c = turn_slot c.args.file.now c.requires.0 c.requires.1 c.t_records-t-items.ensures c.loop-t.t-index (more c)

told : (c : goal.Joined-is_none)
    → let t = c.args.terms.now in
    c.first_rule.result ≡ nonzero (rule_in t.page c.args.file.now t.transfer.now t.cheque.now (slot_at c.args.file.now (c.loop-t.t-index + 1)))
told c =
    turn_told c.args.file.now c.requires.0 c.requires.1 c.t_records-t-items.ensures _ _ _ c.loop-t.t-index (more c)
    c.key-key.ensures.bytes c.whole.ensures c.first_rule.ensures

pub loop-t-preserved : goal.loop-t-preserved
loop-t-preserved c =
    let a = c.args in
    let l = c.loop-t in
    let counted = CountedIn a.terms.now.page a.file.now a.terms.now.transfer.now a.terms.now.cheque.now (l.t-index + 1) in
    elim c.if-is_none.branch [
      | then-is_none w ↦
          subst counted (sym (w.sum-is ∙ w.with_one-sum.ensures ∙ ap (with_one l.sum 0) (is c)))
          (counted_kept _ _ _ _ c.requires.0 c.requires.1 l.t-index (more c) l.invariant _ (told c) (c.is_none.ensures ∙ ap not w.if-is_none.true))
      | else-is_none w ↦
          subst counted (sym w.sum-is)
          (counted_returned _ _ _ _ c.requires.0 c.requires.1 l.t-index (more c) l.invariant _ (told c) (c.is_none.ensures ∙ ap not w.if-is_none.false))
    ]

pub returns : goal.returns
returns c =
    let a = c.args in
    let l = c.loop-t in
    let all : l.t-index ≡ c.requires.0 = omega (arith, turns_count a.file.now c.requires.0 c.requires.1 c.t_records-t-items.ensures) in
    counted_all a.terms.now.page a.file.now a.terms.now.transfer.now a.terms.now.cheque.now c.requires.0 c.requires.1
    (subst (λ (m : ℕ). CountedIn a.terms.now.page a.file.now a.terms.now.transfer.now a.terms.now.cheque.now m l.sum) all l.invariant)
