-- What figures do not decide: every answer but 53.
use Prim.Native.Nat.{ℕ, ◌-◌}
use mathlib.Core.Path.{◌≡◌, refl, sym, ap, ap₂, subst, ◌∙◌}
use mathlib.Core.Bool.{Bool, true, false, ◌||◌, cond}
use mathlib.Core.List.{List, [], ◌∷◌, ◌++◌}
use native.Mathlib.Omega.{arith}
use lib.Dec.{eqb, ltb, leb}
use lib.ListN.{length}
use Rattle.laws.specs.Choice.{either_both}
use Rattle.book.specs.declared.Entry.{Entry}
use Rattle.book.specs.Model.{Model, model, empty, is_forgotten, held_on, holds, answer_of, after}
use Rattle.keeping.specs.Keeping.{answers_by}
use Rattle.keeping.specs.ByPairs.{SamePairs, AnswersByPairs}
use Rattle.keeping.proofs.Keeping.{all_takes}

-- what is the same of lists with the same numbers and days
same_held : (day : ℕ) (es fs : List Entry) → SamePairs es fs → SamePairs (held_on day es) (held_on day fs)
same_held day [] [] s = tt
same_held day (e ∷ es) (f ∷ fs) s =
    subst (λ (b : Bool). SamePairs (held_on day (e ∷ es)) (cond b (held_on day fs) (f ∷ held_on day fs)))
    (ap (λ (n : ℕ). leb 5 (day - n)) s.1)
    (go (is_forgotten day e) (same_held day es fs s.3))
  where
    go : (b : Bool) → SamePairs (held_on day es) (held_on day fs)
        → SamePairs (cond b (held_on day es) (e ∷ held_on day es)) (cond b (held_on day fs) (f ∷ held_on day fs))
    go true h = h
    go false h = (s.0, s.1, s.2, h)
same_held day [] (f ∷ fs) s = absurd s
same_held day (e ∷ es) [] s = absurd s

same_holds : (number : ℕ) (es fs : List Entry) → SamePairs es fs → holds number es ≡ holds number fs
same_holds number [] [] s = refl
same_holds number (e ∷ es) (f ∷ fs) s = ap₂ ◌||◌ (ap (λ (n : ℕ). eqb n number) s.0) (same_holds number es fs s.3)
same_holds number [] (f ∷ fs) s = absurd s
same_holds number (e ∷ es) [] s = absurd s

same_length : (es fs : List Entry) → SamePairs es fs → length es ≡ length fs
same_length [] [] s = refl
same_length (e ∷ es) (f ∷ fs) s = omega (arith, same_length es fs s.3)
same_length [] (f ∷ fs) s = absurd s
same_length (e ∷ es) [] s = absurd s

same_append : (es fs gs hs : List Entry) → SamePairs es fs → SamePairs gs hs → SamePairs (es ++ gs) (fs ++ hs)
same_append [] [] gs hs s t = t
same_append (e ∷ es) (f ∷ fs) gs hs s t = (s.0, s.1, s.2, same_append es fs gs hs s.3 t)
same_append [] (f ∷ fs) gs hs s t = absurd s
same_append (e ∷ es) [] gs hs s t = absurd s

-- models that differ in figures alone
record Match (m n : Model) : Type 0 where
  days : m.day ≡ n.day
  pairs : SamePairs m.held n.held

module _ (m n : Model) (match : Match m n) (e f : Entry) (same : SamePairs (e ∷ []) (f ∷ [])) where
  abbrev held_m : List Entry
  held_m = held_on e.day m.held

  abbrev held_n : List Entry
  held_n = held_on f.day n.held

  still : SamePairs held_m held_n
  still =
      subst (λ (day : ℕ). SamePairs held_m (held_on day n.held)) same.1
      (same_held e.day m.held n.held match.pairs)

  answers_match : answer_of m e ≡ answer_of n f
  unfolding answer_of
  answers_match =
      let held : holds e.number held_m ≡ holds f.number held_n =
      same_holds e.number held_m held_n still ∙ ap (λ (number : ℕ). holds number held_n) same.0 in
      let many = same_length held_m held_n still in
      λ i. cond (same.2 i) 53 (cond (ltb (same.1 i) (match.days i)) 52 (cond (held i) 50 (cond (eqb (many i) 200) 51 0)))

  after_match : Match (after m e) (after n f)
  unfolding after
  after_match = either_both Match (ap (λ (a : ℕ). eqb a 0) answers_match) (λ h. taken) (λ h. match)
    where
      taken : Match (model e.day (held_m ++ (e ∷ []))) (model f.day (held_n ++ (f ∷ [])))
      taken = record { days = same.1; pairs = same_append held_m held_n (e ∷ []) (f ∷ []) still same }

all_match : (m n : Model) → Match m n → (es fs : List Entry) → SamePairs es fs → answers_by after m es ≡ answers_by after n fs
all_match m n match [] [] s = refl
all_match m n match (e ∷ es) (f ∷ fs) s =
    let same : SamePairs (e ∷ []) (f ∷ []) = (s.0, s.1, s.2, tt) in
    ap₂ (λ (a : ℕ) (rest : List ℕ). a ∷ rest) (answers_match m n match e f same)
    (all_match (after m e) (after n f) (after_match m n match e f same) es fs s.3)
all_match m n match [] (f ∷ fs) s = absurd s
all_match m n match (e ∷ es) [] s = absurd s

pub answers_by_pairs : AnswersByPairs
answers_by_pairs es fs answers others last other s t u =
    (all_takes es answers last t).0
    ∙ all_match empty empty record { days = refl; pairs = tt } es fs s
    ∙ sym (all_takes fs others other u).0
