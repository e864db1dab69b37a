use Rattle.std.proofs.Common.{rules}
use Rattle.std.proofs.lemmas.Iterator.{YieldsList-from_slice}
use Rattle.std.proofs.lemmas.Iterator.Search.{all_from_yields_List}
use Rattle.fields.specs.Class.{member, all_of}
use Rattle.fields.specs.Laws.{every_is}
use Rattle.fields.proofs.each.Goals as goal

pub returns : goal.returns
unfolding all_of
returns c =
    rw every_is
    (all_from_yields_List (member c.args.c) _ _ _ c.all.ensures.ran (YieldsList-from_slice c.args.s.now cc) (λ x b q k. search rules))
