use Rattle.m8.specs.Writing.{amount_written}
use Rattle.m8.proofs.amount.Goals as goal

pub returns : goal.returns
returns c =
    amount_written c.args.t.now c.requires c.bytes.ensures c.bytes-2.ensures c.append-end.ensures c.append-end-2.ensures c.append.ensures
