use Rattle.std.specs.Prelude.{ℕ}
use Rattle.std.proofs.lemmas.List.Folds.{list_all-map}
use Rattle.charset.specs.Table.{rep}
use Rattle.std.proofs.Common.{rules}
use Rattle.std.proofs.lemmas.Iterator.{YieldsList-from_slice}
use Rattle.std.proofs.lemmas.Iterator.Search.{all_from_yields_List}
use Rattle.fields.specs.Class.{member, all_of}
use Rattle.fields.specs.Laws.{every_is}
use Rattle.fields.proofs.all_text.Goals as goal

pub returns : goal.returns
unfolding all_of
returns c =
    rw (every_is, list_all-map)
    (all_from_yields_List (λ (b : ℕ). member c.args.c (rep c.args.page b)) _ _ _ c.all.ensures.ran (YieldsList-from_slice c.args.s.now cc) (λ x b q k. search rules))
