use Rattle.std.proofs.Common.{[], ◌∷◌, ap, ◌∙◌}
use Rattle.charset.specs.Table.{rep}
use Rattle.records.specs.declared.Span.{Span}
use Rattle.forwarding.specs.Text.{lies}
use Rattle.forwarding.specs.Forwarded.{fwd}
use Rattle.place.specs.Placing.{none_replaced}
use Rattle.place.proofs.q_record.Goals as goal

pub returns-clause-output : goal.returns-clause-output
returns-clause-output c =
    let a = c.args in
    let rec = a.rec.now in
    c.field.ensures.output [] (c.copy_from_slice.ensures.after ∙ none_replaced a.page rec)
    ∙ ap (λ (s : Span). fwd (rep a.page) (lies (s ∷ [])) 0 rec) c.place.ensures
