use Rattle.m8.specs.Writing.{heading_written}
use Rattle.m8.proofs.heading.Goals as goal

pub returns : goal.returns
returns c =
    heading_written c.args.q.now c.requires c.bytes.ensures c.bytes-2.ensures c.append-end.ensures c.append-end-2.ensures c.append-end-3.ensures
    c.append-end-4.ensures
    c.append.ensures
