use Rattle.std.proofs.Common.{◌≡◌, ℕ, ◌+◌, ◌<◌, ap₂, subst, sym, ◌∙◌, arith, lit<, get_or, List, []}
use Rattle.laws.specs.Found.{nonzero}
use Rattle.structure.specs.Slots.{slot_at}
use Rattle.forwarding.specs.Noted.{noted_is}
use Rattle.sorting.specs.Kept.{rule_in}
use Rattle.sorting.specs.Frame.{fit, sized, turns_count, turn_slot, turn_told, q_there, t_there}
use Rattle.m8.specs.Record.{m8_of, code_of}
use Rattle.m8.specs.Course.{FiledSoFar}
use Rattle.m8.proofs.Course.{turn_passed, broken_asked, broken_filed, turns_end}
use Rattle.m8.proofs.payments.Goals as goal
use Rattle.m8.proofs.payments.Goals.{After-first_rule, in-Some, in_default}

subst2 : (P : ℕ → List ℕ → Type 0) {at at' : ℕ} {out out' : List ℕ} → at ≡ at' → out ≡ out' → P at out → P at' out'
subst2 P {at} {at'} {out} {out'} p q h = subst (λ (a : ℕ). P a out') p (subst (λ (o : List ℕ). P at o) q h)

pub whole-q-requires : goal.whole-q-requires
whole-q-requires c = (lit< tt, q_there c.args.file.now c.requires.0.0 c.requires.0.1)

pub whole-requires : goal.whole-requires
whole-requires c =
    let e = c.requires.0.1 in
    (lit< tt, t_there c.args.file.now c.requires.0.0 e 1 (omega arith) (fit c.args.file.now c.requires.0.0 e).some)

pub t_records-t-items-requires : goal.t_records-t-items-requires
t_records-t-items-requires c = sized c.args.file.now c.requires.0.0 c.requires.0.1

-- the payment of this turn, and what `first_rule` says of it
more : (c : After-first_rule) → c.loop-t.t-index < c.requires.0.0
more c = omega (arith, turns_count c.args.file.now c.requires.0.0 c.requires.0.1 c.t_records-t-items.ensures)

is : (c : After-first_rule) → get_or c.t_records-t-items.result.now c.loop-t.t-index [] ≡ slot_at c.args.file.now (c.loop-t.t-index + 1)
is c = turn_slot c.args.file.now c.requires.0.0 c.requires.0.1 c.t_records-t-items.ensures c.loop-t.t-index (more c)

told : (c : After-first_rule)
    → let t = c.args.terms.now in
    c.first_rule.result ≡ nonzero (rule_in t.page c.args.file.now t.transfer.now t.cheque.now (slot_at c.args.file.now (c.loop-t.t-index + 1)))
told c =
    turn_told c.args.file.now c.requires.0.0 c.requires.0.1 c.t_records-t-items.ensures _ _ _ c.loop-t.t-index (more c)
    c.key-key.ensures.bytes c.whole.ensures c.first_rule.ensures

pub payment-at-requires : goal.payment-at-requires
payment-at-requires c =
    let a = c.args in
    let at = (goal.at.payment-at-requires c).After-first_rule in
    broken_asked _ _ _ _ a.codes.now c.requires.0.0 c.requires.0.1 a.out.now c.requires.1 c.loop-t.t-index c.loop-t.invariant (more at)
    (sym c.in-Some.is ∙ told at)

pub loop-t-preserved : goal.loop-t-preserved
loop-t-preserved c =
    let a = c.args in
    let l = c.loop-t in
    let at = (goal.at.loop-t-preserved c).After-first_rule in
    let filed = FiledSoFar a.terms.now.page a.file.now a.terms.now.transfer.now a.terms.now.cheque.now a.codes.now a.out.now (l.t-index + 1) in
    elim c.match-first_rule.branch [
      | in-Some w ↦
          subst2 filed (sym w.at-is) (sym w.out-is)
          (broken_filed _ _ _ _ a.codes.now c.requires.0.0 c.requires.0.1 a.out.now c.requires.1 l.t-index l.invariant (more at)
          (sym w.in-Some.is ∙ told at)
          (noted_is (ap₂ (λ (q t : List ℕ). m8_of a.terms.now.page q (code_of a.codes.now w.in-Some.rule) t) c.whole-q.ensures (is at)) w.payment-at.ensures))
      | in_default w ↦
          subst2 filed (sym w.at-is) (sym w.out-is)
          (turn_passed _ _ _ _ a.codes.now c.requires.0.0 c.requires.0.1 a.out.now c.requires.1 l.t-index l.invariant (more at)
          (sym w.in_default.is ∙ told at))
    ]

pub returns : goal.returns
returns c =
    let a = c.args in
    let n = c.requires.0.0 in
    let all = turns_count a.file.now n c.requires.0.1 c.t_records-t-items.ensures in
    turns_end _ _ _ _ a.codes.now n c.requires.0.1 a.out.now c.requires.1 c.loop-t.t-index c.loop-t.invariant (omega (arith, all)) (omega (arith, all))
