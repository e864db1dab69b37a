use Rattle.std.specs.Prelude.{◌<◌, refl}
use Rattle.std.proofs.Common.{sym, ◌∙◌, arith}
use Rattle.laws.specs.Choice.{on_ne, off_ne}
use Rattle.laws.specs.Found.{of_none, of_some, of_some_ne}
use Rattle.laws.specs.Scan.{goes, leaves, ends}
use Rattle.judge.specs.First.{found}
use Rattle.judge.specs.Found.{some_broken, none_broken}
use Rattle.judge.specs.Content.{rule_from, rule_end, rule_real}
use Rattle.judge.specs.Run.{run_fault}
use Rattle.judge.proofs.run.Goals as goal

pub loop-rule-preserved : goal.loop-rule-preserved
loop-rule-preserved c =
    let l = c.loop-rule in
    let holds = of_none (rw c.slot_in-slot.ensures at c.in_default.ensures) in
    (l.invariant.0, goes _ _ _ _ _ c.loop-rule-test.true l.invariant.1 (off_ne _ refl holds refl))

pub records-preserved : goal.records-preserved
records-preserved c =
    let l = c.loop-rule in
    let none = sym (ends _ _ _ _ _ c.loop-rule-test.false l.invariant.1) in
    (l.invariant.0, goes _ _ _ _ _ c.records-test.true c.records.invariant.1 (off_ne _ refl none refl))

pub returns-after-records : goal.returns-after-records
returns-after-records c =
    let r = c.records in
    r.invariant.0 ∙ none_broken (ends _ _ _ _ _ c.records-test.false r.invariant.1)

pub returns-in-Some : goal.returns-in-Some
returns-in-Some c =
    let l = c.loop-rule in
    let r = c.records in
    let a = c.args in
    let says = rw c.slot_in-slot.ensures at c.in-Some.ensures in
    let real : 0 < l.rule = omega (arith, rule_real a.payments r.k) in
    let rule = leaves _ _ _ _ _ l.rule c.loop-rule-test.true l.invariant.1 (on_ne _ refl (of_some_ne says) refl) in
    let F = run_fault a.terms.now.page a.terms.now.transfer.now a.terms.now.cheque.now a.key.now a.payments a.euros a.bytes.now a.skip in
    some_broken (λ z. omega arith)
    (leaves _ _ _ _ _ _ c.records-test.true r.invariant.1
    (found F (rule_from a.payments) (rule_end a.payments) r.k l.rule _ _ real rule (of_some says)))
