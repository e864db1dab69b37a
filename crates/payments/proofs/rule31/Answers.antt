use Prim.Native.Char.{code}
use Rattle.std.specs.Prelude.{ℕ, ◌≡◌, Bool, not, ◌&&◌, List, eqb, get_or}
use Rattle.std.proofs.Common.{rules, sym, ap, ap₂, ◌∙◌}
use Rattle.charset.specs.Table.{rep}
use Rattle.charset.specs.Rows.{slash_rep}
use Rattle.fields.specs.Laws.{blank_one}
use Rattle.records.specs.declared.TField.TheVariants.{T12}
use Rattle.payments.specs.Rules.{in_t, rule31}
use Rattle.payments.proofs.rule31.Goals as goal

abbrev begins : ℕ → List ℕ → Bool
begins page s = eqb (rep page (get_or s 0 0)) (code "/") && not (eqb (rep page (get_or s 1 0)) (code " "))

-- a transfer: the rule reads replaced characters, the code / as it stands and what follows it as a text of one character
pub returns-then-is_transfer : goal.returns-then-is_transfer
unfolding rule31
returns-then-is_transfer c =
    let t12 = c.bytes-t12 in
    let page = c.args.page in
    let right : eqb (get_or t12.result.now 0 0) (code "/") && not c.blank-more.result ≡ begins page (in_t T12 c.args.rec.now) =
    ap₂ ◌&&◌ (sym (slash_rep page _)) (ap not (c.blank-more.ensures ∙ blank_one page t12.result.now 1 (search rules)))
    ∙ ap (begins page) t12.ensures.bytes in
    search rules
