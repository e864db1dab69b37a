use Rattle.std.proofs.Common.{sym, ◌∙◌, eqb-true}
use Rattle.forwarding.specs.Noted.{unchanged_noted}
use Rattle.note.proofs.block.Goals as goal

pub returns-then-none : goal.returns-then-none
returns-then-none c =
    let a = c.args in
    unchanged_noted a.place a.n a.s.now a.have a.notes.now (eqb-true _ 0 (sym c.none.ensures ∙ c.if-none.true))
