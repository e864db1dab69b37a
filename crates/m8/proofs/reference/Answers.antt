use Rattle.std.proofs.Common.{arith}
use Rattle.m8.specs.Writing.{line_fits}
use Rattle.m8.proofs.reference.Goals as goal

pub copy_from_slice-requires : goal.copy_from_slice-requires
copy_from_slice-requires c =
    omega (arith, line_fits c.args.t.now c.told-t c.place.ensures c.line-line.ensures c.part.ensures.holds)
