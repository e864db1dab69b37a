use Rattle.std.proofs.Common.{◌+◌, arith}
use Rattle.structure.specs.Slots.{t_long, place_in}
use Rattle.judge.proofs.sum.Goals as goal

pub whole-rec-requires : goal.whole-rec-requires
whole-rec-requires c =
    let a = c.args in
    let long = c.requires.0 in
    let k = c.loop-k.k + 1 in
    (omega arith, (omega arith, place_in a.file.now a.n long k (omega arith), t_long a.file.now a.n long k (omega arith) (omega arith)))
