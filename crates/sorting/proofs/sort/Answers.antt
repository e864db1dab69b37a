use Rattle.std.proofs.Common.{refl, sym, ap, not}
use Rattle.std.proofs.lemmas.Result.{err_from_is_err_and}
use Rattle.structure.specs.Shape.{Fits, Refused}
use Rattle.sorting.proofs.Answers.{told_no_page, told_shape}
use Rattle.sorting.proofs.Goes.{answer_real}
use Rattle.sorting.proofs.sort.Goals as goal

pub returns-then-not-is_page-clause-answer : goal.returns-then-not-is_page-clause-answer
returns-then-not-is_page-clause-answer c =
    let a = c.args in
    told_no_page a.terms.now.page a.file.now a.terms.now.transfer.now a.terms.now.cheque.now c.is_page.ensures (ap not c.if-not-is_page.true) refl

pub returns-in_err-n-clause-answer : goal.returns-in_err-n-clause-answer
returns-in_err-n-clause-answer c =
    let a = c.args in
    let p = err_from_is_err_and c.from_residual.result c.from_residual.ensures.1 in
    rw (p.1, p.2) (told_shape _ _ _ _ c.is_page.ensures (Refused _ _) (ap not c.if-not-is_page.false) (sym c.in_err-n.ensures) refl)

pub returns-clause-answer : goal.returns-clause-answer
returns-clause-answer c =
    let a = c.args in
    told_shape _ _ _ _ c.is_page.ensures (Fits _) (ap not c.if-not-is_page.false) (sym c.in_ok-n.ensures) c.by_records.ensures

pub returns-clause-real : goal.returns-clause-real
returns-clause-real c = answer_real _ _ _ _ c.by_records.result (returns-clause-answer c)
