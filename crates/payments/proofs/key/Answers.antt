use Rattle.std.specs.Prelude.{◌≡◌, take, drop}
use Rattle.std.proofs.Common.{arith}
use Rattle.records.specs.Places.{◌to◌, part}
use Rattle.records.specs.Inside.{held}
use Rattle.payments.proofs.key.Goals as goal

pub returns : goal.returns
unfolding part
returns c =
    let e : c.unwrap.result.now ≡ take 21 (drop 5 c.args.first.now) = grind arith in
    held (5 to 25) c.args.first.now e (omega arith, omega arith) c.told-first
