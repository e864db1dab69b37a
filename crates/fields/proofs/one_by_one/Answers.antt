use Rattle.std.proofs.Common.{rules}
use Rattle.std.proofs.lemmas.Iterator.{YieldsList-from_slice}
use Rattle.std.proofs.lemmas.Iterator.Search.{any_from_yields_List}
use Rattle.fields.specs.Laws.{is_pair, in_pairs}
use Rattle.fields.proofs.one_by_one.Goals as goal

pub returns : goal.returns
returns c =
    let a = c.args in
    rw (← in_pairs, ← c.as_chunks.ensures.front)
    (any_from_yields_List (is_pair a.a a.b) _ _ _ c.any.ensures.ran (YieldsList-from_slice c.as_chunks.result.0.now cc) (λ x b q k. search rules))
