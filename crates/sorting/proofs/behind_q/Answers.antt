use Rattle.std.proofs.lemmas.Result.{err_from_is_err_and}
use Rattle.sorting.specs.Frame.{fit}
use Rattle.sorting.proofs.Answers.{kept_le, told_33, told_z}
use Rattle.sorting.proofs.behind_q.Goals as goal

pub amounts-requires : goal.amounts-requires
amounts-requires c =
    let f = fit c.args.file.now c.args.n c.requires.0 in
    (f.long, f.most)

pub returns-in_err-amounts : goal.returns-in_err-amounts
returns-in_err-amounts c =
    let a = c.args in
    let p = err_from_is_err_and c.from_residual.result c.from_residual.ensures.1 in
    rw (p.1, p.2) (told_33 a.terms.now.page a.file.now a.terms.now.transfer.now a.terms.now.cheque.now a.n c.requires.0 c.in_err-amounts.ensures)

pub returns-in_err-z_rules : goal.returns-in_err-z_rules
returns-in_err-z_rules c =
    let a = c.args in
    let r = c.from_residual-in_err-z_rules in
    let p = err_from_is_err_and r.result r.ensures.1 in
    rw (p.1, p.2) (told_z _ _ _ _ a.n c.requires.0 c.in_ok-amounts.ensures c.in_err-z_rules.ensures)

pub going_on-requires : goal.going_on-requires
going_on-requires c =
    let a = c.args in
    kept_le a.terms.now.page a.file.now a.terms.now.transfer.now a.terms.now.cheque.now a.n c.requires.0 c.count_kept-kept.ensures c.requires.1
