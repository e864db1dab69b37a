use Rattle.std.proofs.Common.{arith}
use Rattle.structure.specs.Slots.{t_long, place_in}
use Rattle.judge.specs.Run.{file_lies}
use Rattle.judge.proofs.content.Goals as goal

pub whole-requires : goal.whole-requires
whole-requires c =
    let a = c.args in
    let long = c.requires.0 in
    (omega arith, (omega arith, place_in a.file.now a.n long 1 (omega arith), t_long a.file.now a.n long 1 (omega arith) c.requires.1.0))

pub run-requires : goal.run-requires
run-requires c = file_lies c.args.file.now c.args.n c.requires.0 c.requires.1.1
