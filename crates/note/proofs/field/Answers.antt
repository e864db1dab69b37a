use Rattle.std.proofs.Common.{arith}
use Rattle.forwarding.specs.Noted.{noted_is}
use Rattle.note.specs.Blocks.{turns_done, turn_low, turn_fits, turn_noted}
use Rattle.note.proofs.field.Goals as goal

pub block-m-requires : goal.block-m-requires
block-m-requires c =
    let a = c.args in
    let l = c.loop-k in
    let ts = c.as_chunks.ensures.front in
    let low = turn_low a.place a.n l.k a.s.now c.requires.0 ts c.loop-k-test.true c.min.ensures in
    let fits = turn_fits a.place a.n l.k a.s.now c.requires.0 ts c.loop-k-test.true c.min.ensures in
    (omega arith, omega (arith, c.requires.1), omega (arith, c.requires.2, l.auto.notes, l.invariant.next_is))

pub loop-k-preserved : goal.loop-k-preserved
loop-k-preserved c =
    let a = c.args in
    let l = c.loop-k in
    turn_noted a.place a.n l.k a.s.now c.requires.0 c.as_chunks.ensures.front c.loop-k-test.true c.min.ensures c.requires.2 l.invariant c.block-m.ensures

pub returns : goal.returns
returns c =
    let a = c.args in
    noted_is (turns_done a.place a.n c.loop-k.k a.s.now c.requires.0 c.as_chunks.ensures.front c.loop-k-test.false) c.loop-k.invariant
