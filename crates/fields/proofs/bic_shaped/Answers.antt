use Rattle.std.proofs.Common.{sym, ◌∙◌}
use Rattle.fields.specs.Shape.{shape_kept}
use Rattle.fields.proofs.bic_shaped.Goals as goal

pub returns-then-bic_as_it_stands : goal.returns-then-bic_as_it_stands
returns-then-bic_as_it_stands c =
    sym (shape_kept c.args.page c.args.t8.now (sym c.bic_as_it_stands.ensures ∙ c.if-bic_as_it_stands.true))
