use Rattle.std.proofs.Common.{ℕ, ◌&&◌, leb, ltb, refl, rules, tests}
use Rattle.std.proofs.lemmas.Iterator.{YieldsList-from_range}
use Rattle.std.proofs.lemmas.Iterator.Search.{any_from_yields_List}
use Rattle.records.specs.Places.{t_text}
use Rattle.restore.proofs.in_text.Goals as goal

pub returns : goal.returns
returns c =
    let i = c.args.offset in
    any_from_yields_List (λ (k : ℕ). leb (t_text k).start i && ltb i (t_text k).end) _ _ _ c.any.ensures.ran
    (YieldsList-from_range 2 10 8 refl refl) (λ x b q k. search (rules, tests))
