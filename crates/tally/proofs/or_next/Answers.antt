use Rattle.std.specs.Prelude.{Option, unwrap_or}
use Rattle.std.proofs.Common.{ap, ◌∙◌}
use Rattle.laws.specs.Choice.{on_eq}
use Rattle.judge.specs.First.{none}
use Rattle.judge.specs.declared.Breach.{Breach}
use Rattle.tally.specs.Record.{kept_in}
use Rattle.tally.proofs.or_next.Goals as goal

pub returns : goal.returns
returns c =
    on_eq _ c.if-broken-ne0.false
    (c.unwrap_or.ensures ∙ ap (λ (o : Option Breach). unwrap_or o none) c.breach.ensures ∙ kept_in _ _ _ _ _ _ _ _)
