use Rattle.std.specs.Prelude.{◌≡◌, None}
use Rattle.laws.specs.Scan.{first}
use Rattle.judge.specs.First.{breaks, first_rule}
use Rattle.judge.specs.Content.{rule_from, rule_end}
use Rattle.judge.specs.Run.{run_fault, first_in}
use Rattle.judge.proofs.run.Given as goal

-- The rules before `rule` hold of record k, and all rules hold of the records before it: what the search from there on
-- tells is what the whole search tells.
abbrev pub invariant-loop-rule : goal.invariant-loop-rule
invariant-loop-rule l =
    (l.found ≡ None)
    × (first (breaks (run_fault l.terms.page l.terms.transfer.now l.terms.cheque.now l.key l.payments l.euros l.bytes l.skip) l.k) (λ r. r) 0 l.rule l.rule-end
    ≡ first_rule (run_fault l.terms.page l.terms.transfer.now l.terms.cheque.now l.key l.payments l.euros l.bytes l.skip) (rule_from l.payments) (rule_end l.payments) l.k)

abbrev pub invariant-records : goal.invariant-records
invariant-records l =
    (l.found ≡ None)
    × (first_in (run_fault l.terms.page l.terms.transfer.now l.terms.cheque.now l.key l.payments l.euros l.bytes l.skip) (rule_from l.payments) (rule_end l.payments) l.k l.to
    ≡ first_in (run_fault l.terms.page l.terms.transfer.now l.terms.cheque.now l.key l.payments l.euros l.bytes l.skip) (rule_from l.payments) (rule_end l.payments) l.from l.to)
