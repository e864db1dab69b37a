use Rattle.std.proofs.Common.{◌∙◌, arith}
use Rattle.judge.specs.Run.{one_lies}
use Rattle.sorting.proofs.Outcome.{alone_some, alone_none}
use Rattle.sorting.proofs.first_rule.Goals as goal

pub run-requires : goal.run-requires
run-requires c = one_lies c.args.t.now 1 (omega arith) 1 (omega arith) c.told-t

pub returns-in_err-found : goal.returns-in_err-found
returns-in_err-found c =
    let a = c.args in
    c.from_residual.ensures ∙ alone_none a.terms.now.page a.terms.now.transfer.now a.terms.now.cheque.now a.key.now a.t.now c.told-t c.in_err-found.ensures

pub returns : goal.returns
returns c =
    let a = c.args in
    alone_some a.terms.now.page a.terms.now.transfer.now a.terms.now.cheque.now a.key.now a.t.now c.told-t c.in_ok-found.ensures
