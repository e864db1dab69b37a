use Rattle.std.proofs.Common.{refl, sym, ◌∙◌, eqb-true, eq-eqb}
use Rattle.forwarding.specs.Text.{t_texts}
use Rattle.forwarding.specs.Fields.{none_within}
use Rattle.count.proofs.t_none.Goals as goal

pub returns-then-none : goal.returns-then-none
returns-then-none c =
    c.if-none.true ∙ sym (eq-eqb _ 0 (none_within 53 725 t_texts c.args.rec.now refl (eqb-true _ 0 (sym c.none.ensures ∙ c.if-none.true))))
