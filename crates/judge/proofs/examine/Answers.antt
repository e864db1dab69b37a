use Rattle.std.proofs.Common.{sym}
use Rattle.structure.specs.Fits.{fits}
use Rattle.judge.proofs.examine.Goals as goal

pub sum-totals-requires : goal.sum-totals-requires
sum-totals-requires c =
    let f = fits c.args.file.now _ (sym c.in_ok-n.ensures) in
    (f.long, f.most)

pub content-requires : goal.content-requires
content-requires c =
    let f = fits c.args.file.now _ (sym c.in_ok-n.ensures) in
    (f.long, (f.some, f.most))
