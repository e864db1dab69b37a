use Rattle.std.proofs.Common.{◌-◌, sym, ◌∙◌, arith, length}
use Rattle.laws.specs.Found.{of_some, of_some_ne}
use Rattle.tally.specs.Settle.{steady_settle}
use Rattle.reader.specs.Eats.{ready_go, ready_le, turn}
use Rattle.reader.proofs.whole_records.Goals as goal

pub loop-width-preserved : goal.loop-width-preserved
loop-width-preserved c =
    let l = c.loop-width in
    let cut = c.args.cut.now in
    let t = c.args.terms.now in
    let w = of_some c.in-Some.ensures in
    let h = ready_go l.tally.stop l.tally.next (length cut - l.at) c.in-Some.width w (λ z. of_some_ne c.in-Some.ensures (sym w ∙ z)) in
    let low = ready_le l.tally.stop l.tally.next (length cut - l.at) c.in-Some.width w in
    rw c.settle-tally.ensures (
      omega (arith, low, l.invariant.0),
      steady_settle _ _ _ _ _ l.invariant.1,
      l.invariant.2 ∙ turn t.page t.transfer.now t.cheque.now l.tally cut l.at c.in-Some.width h.0 h.1 (omega (arith, low, l.invariant.0)),
    )
