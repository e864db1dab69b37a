use Rattle.std.proofs.Common.{refl}
use Rattle.judge.specs.Found.{was_broken, was_whole}
use Rattle.sorting.specs.Frame.{fit}
use Rattle.sorting.proofs.Answers.{told_later, told_q, told_whole}
use Rattle.sorting.proofs.by_records.Goals as goal

pub sum-euros-requires : goal.sum-euros-requires
sum-euros-requires c =
    let f = fit c.args.file.now c.args.n c.requires in
    (f.long, f.most)

pub content-requires : goal.content-requires
content-requires c =
    let f = fit c.args.file.now c.args.n c.requires in
    (f.long, (f.some, f.most))

pub file-requires : goal.file-requires
file-requires c =
    let f = fit c.args.file.now c.args.n c.requires in
    record { payments = c.args.n; long = f.long; most = f.most }

pub returns-in-Ok : goal.returns-in-Ok
returns-in-Ok c =
    let a = c.args in
    told_whole _ _ _ _ a.n c.requires c.sum-euros.ensures.0 refl (was_whole _ c.in-Ok.ensures) (c.file.ensures a.terms.now.page) c.whole.ensures

pub returns-in-Err : goal.returns-in-Err
returns-in-Err c =
    let a = c.args in
    let b = was_broken c.in-Err.ensures in
    told_q a.terms.now.page a.file.now a.terms.now.transfer.now a.terms.now.cheque.now a.n c.requires c.sum-euros.ensures.0 b.0 b.1 c.if-broken-lt20.true

pub returns-in-Err-2 : goal.returns-in-Err-2
returns-in-Err-2 c =
    let a = c.args in
    let b = was_broken c.in-Err.ensures in
    told_later _ _ _ _ a.n c.requires c.sum-euros.ensures.0 b.0 c.if-broken-lt20.false c.behind_q.ensures
