use Rattle.std.proofs.Common.{◌≡◌, ◌∙◌, List, ℕ, [], ◌∷◌, Bool, true, refl, rules, tests}
use Rattle.std.specs.List.{fold}
use Rattle.std.proofs.lemmas.Iterator.{YieldsList-from_slice}
use Rattle.std.proofs.lemmas.Iterator.Consumers.{fold_from_yields_List}
use Rattle.laws.specs.Steps.{fold as folded}
use Rattle.forwarding.specs.Changes.{kept, none_fold}
use Rattle.count.proofs.none.Goals as goal

same : (t : Bool) (s : List ℕ) → fold kept t s ≡ folded kept t s
same t [] = refl
same t (b ∷ s) = same (kept t b) s

pub returns : goal.returns
returns c =
    let all : c.fold.result ≡ fold kept true c.args.s.now =
    fold_from_yields_List _ kept true _ c.fold.ensures.ran (YieldsList-from_slice c.args.s.now (cc)) (λ a x b q k. search (rules, tests)) in
    all ∙ same true c.args.s.now ∙ none_fold true c.args.s.now
