use Rattle.std.proofs.Common.{refl, arith}
use Rattle.std.proofs.lemmas.Result.{err_from_is_err_and}
use Rattle.m8.proofs.Outcome.{few, sort_refused, table_refused, room_refused, payments_fit, records_filed, none_filed}
use Rattle.m8.proofs.file_returned.Goals as goal

pub returns-in_err-count : goal.returns-in_err-count
returns-in_err-count c =
    let a = c.args in
    let e = c.in_err-count.ensures in
    let p = err_from_is_err_and c.from_residual.result c.from_residual.ensures.1 in
    rw (p.1, p.2) (sort_refused a.terms.now.page a.file.now a.terms.now.transfer.now a.terms.now.cheque.now a.codes.now a.out.now e.answer e.real refl)

pub overflow_mul-count : goal.overflow_mul-count
overflow_mul-count c =
    let a = c.args in
    omega (arith, few a.terms.now.page a.file.now a.terms.now.transfer.now a.terms.now.cheque.now a.codes.now a.out.now c.in_ok-count.ensures.answer refl)

pub returns-in_default : goal.returns-in_default
returns-in_default c =
    let a = c.args in
    table_refused _ _ _ _ a.codes.now a.out.now c.in_ok-count.ensures.answer refl c.in_default.ensures.cases refl

pub returns-then-out-count : goal.returns-then-out-count
returns-then-out-count c =
    let a = c.args in
    room_refused _ _ _ _ a.codes.now a.out.now c.in_ok-count.ensures.answer refl (grind arith) c.if-out-count.true refl

pub payments-requires : goal.payments-requires
payments-requires c =
    let a = c.args in
    let table = c.in-Some.ensures.cases.long in
    let lent = c.in-Some.ensures.cases.same in
    let fit = payments_fit _ _ _ _ a.codes.now a.out.now c.in_ok-count.ensures.answer refl table c.if-out-count.false lent in
    ((_, fit.0), fit.1)

pub returns-then-count-ne0 : goal.returns-then-count-ne0
returns-then-count-ne0 c =
    let a = c.args in
    let table = c.in-Some.ensures.cases.long in
    let lent = c.in-Some.ensures.cases.same in
    records_filed _ _ _ _ a.codes.now a.out.now c.in_ok-count.ensures.answer refl table c.if-out-count.false lent c.payments.ensures

pub returns-else-count-ne0 : goal.returns-else-count-ne0
returns-else-count-ne0 c =
    let a = c.args in
    let table = c.in-Some.ensures.cases.long in
    none_filed _ _ _ _ a.codes.now a.out.now c.in_ok-count.ensures.answer refl table c.if-out-count.false c.if-count-ne0.false
