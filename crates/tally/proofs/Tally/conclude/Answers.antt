use Rattle.std.specs.Prelude.{◌≡◌}
use Rattle.std.proofs.Common.{arith, rules}
use Rattle.structure.specs.Walk.{fault_in}
use Rattle.tally.specs.Conclude.{ends_in}
use Rattle.tally.proofs.Tally.conclude.Goals as goal

pub unwrap-requires : goal.unwrap-requires
unwrap-requires c =
    let right : fault_in c.args.self.next c.args.left.now ≡ 0 = grind arith in
    let z = ends_in c.args.self.next c.args.left.now right c.requires.0 in
    search (rules, z.long)

pub at_z-requires : goal.at_z-requires
at_z-requires c =
    let right : fault_in c.args.self.next c.args.left.now ≡ 0 = grind arith in
    let z = ends_in c.args.self.next c.args.left.now right c.requires.0 in
    (omega arith, c.requires.1.few)
