-- Document 02, A8 (RULES 9.11): but for 53, what a take passes beside number and day decides no answer.
use Rattle.std.specs.Prelude.{ℕ, ◌≡◌, List, [], ◌∷◌}
use Rattle.book.specs.declared.Entry.{Entry}
use Rattle.book.specs.declared.Book.{Book}
use Rattle.book.specs.Model.{is_too_large}
use Rattle.keeping.specs.Keeping.{Takes}

-- take by take the same number, the same day, and a figure above its limit in both or in neither
abbrev pub SamePairs : List Entry → List Entry → Type 0
SamePairs [] [] = Unit {0}
SamePairs (e ∷ es) (f ∷ fs) =
    (e.number ≡ f.number) × (e.day ≡ f.day) × (is_too_large e ≡ is_too_large f) × SamePairs es fs
SamePairs [] (f ∷ fs) = ⊥
SamePairs (e ∷ es) [] = ⊥

-- such takes are answered alike, whatever their figures are
abbrev pub AnswersByPairs : Type 0
AnswersByPairs =
    (es fs : List Entry) (answers others : List ℕ) (last other : Book) → SamePairs es fs → Takes es answers last
    → Takes fs others other → answers ≡ others
