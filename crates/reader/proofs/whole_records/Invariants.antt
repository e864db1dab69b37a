use Rattle.std.proofs.Common.{◌≡◌, ◌-◌, ◌≤◌, [], length, drop}
use Rattle.tally.specs.Settle.{Steady}
use Rattle.reader.specs.State.{mid, eat}
use Rattle.reader.proofs.whole_records.Given as goal

-- The records up to `at` were settled: to eat the rest of the cut is to eat all of it.
abbrev pub invariant-loop-width : goal.invariant-loop-width
invariant-loop-width l =
    (l.at ≤ length l.cut) × Steady l.tally
    × (eat l.terms.page l.terms.transfer.now l.terms.cheque.now (mid l.initial.tally []) l.cut ≡ eat l.terms.page l.terms.transfer.now l.terms.cheque.now (mid l.tally []) (drop l.at l.cut))

abbrev pub decreases-loop-width : goal.decreases-loop-width
decreases-loop-width l = length l.cut - l.at
