use Rattle.std.proofs.Common.{ap, ◌∙◌}
use Rattle.judge.specs.Found.{broken}
use Rattle.judge.specs.Run.{one_lies}
use Rattle.tally.specs.Record.{of_run}
use Rattle.tally.proofs.breach.Goals as goal

pub run-requires : goal.run-requires
run-requires c =
    rw c.record_at.ensures (one_lies c.args.slot.now c.args.k c.requires.1 c.args.payments c.requires.2 c.requires.0)

pub returns : goal.returns
returns c = c.run.ensures ∙ ap broken (of_run _ _ _ _ _ _ _ _ _ c.record_at.ensures c.requires.1)
