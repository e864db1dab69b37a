-- Document 02, A7 (RULES 9.11): the book of taken files, sentence by sentence. What a take answers is said of a plain list of
-- pairs in book/Model; that a book of 200 places answers so, whatever the takes, is said here.
use Rattle.std.specs.Prelude.{ℕ, ◌+◌, ◌≤◌, ◌<◌, ◌≡◌, false, cond, List, [], ◌∷◌, ◌++◌, ◌⊎◌, ◌↔◌, eqb, replicate}
use Rattle.laws.specs.Steps.{fold}
use Rattle.book.specs.declared.Entry.{Entry}
use Rattle.book.specs.declared.Book.{Book}
use Rattle.book.specs.declared.Taken.{Taken}
use Rattle.book.specs.Model.{Model, model, empty, is_too_large, answer_of, after}
use Rattle.book.specs.Kept.{held_in, model_of, NewBookAs, TakenAs}
use Rattle.demands.specs.Settled.{Settled}

-- takes one after the other, as is promised of each: what they answer, and the last book
abbrev pub TakenAll : Book → List Entry → List ℕ → Book → Type 0
TakenAll b [] answers last = (answers ≡ []) × (last ≡ b)
TakenAll b (e ∷ es) answers last =
    (taken : Taken) × TakenAs b e taken × (rest : List ℕ) × (answers ≡ taken.number ∷ rest) × TakenAll taken.book es rest last

-- the same from a new book
pub record Takes (es : List Entry) (answers : List ℕ) (last : Book) : Type 0 where
  pub first : Book
  pub new : NewBookAs first
  pub all : TakenAll first es answers last

-- what a model answers to takes one after the other, where a take makes of it what the step says
abbrev pub answers_by : (Model → Entry → Model) → Model → List Entry → List ℕ
answers_by step m [] = []
answers_by step m (e ∷ es) = answer_of m e ∷ answers_by step (step m e) es

-- the step of a plain set, from which no pair is ever removed: which of them are held is asked anew with each take
abbrev pub added : Model → Entry → Model
added m e = cond (eqb (answer_of m e) 0) (model e.day (m.held ++ (e ∷ []))) m

-- take by take the book answers as the model does; and it holds what the model holds, on the model's day
abbrev pub AnswersAsModel : Type 0
AnswersAsModel =
    (es : List Entry) (answers : List ℕ) (last : Book) → Takes es answers last
    → (answers ≡ answers_by after empty es) × (model_of last ≡ fold after empty es)

-- "Any order of calls answers as a plain set of pairs of number and day would"
abbrev pub AnswersAsPlainSet : Type 0
AnswersAsPlainSet = (es : List Entry) (answers : List ℕ) (last : Book) → Takes es answers last → answers ≡ answers_by added empty es

-- "a number is taken on a business day [..] and forgotten once the day is five or more later": whatever book was handed in,
-- where the next take is of the same number, on that day or later, and no figure of it is above its limit, it answers 50 up
-- to the fourth day after, and from the fifth on no more
abbrev pub HeldFiveDays : Type 0
HeldFiveDays =
    (b : Book) (e later : Entry) (taken again : Taken) → TakenAs b e taken → taken.number ≡ 0 → later.number ≡ e.number
    → e.day ≤ later.day → is_too_large later ≡ false → TakenAs taken.book later again
    → (again.number ≡ 50) ↔ (later.day < e.day + 5)

-- "A refused call leaves the book, its day included, unchanged": whatever book is handed in
abbrev pub RefusedKeepsBook : Type 0
RefusedKeepsBook = (b : Book) (e : Entry) (taken : Taken) → TakenAs b e taken → (taken.number ≡ 0 → ⊥) → taken.book ≡ b

-- demand 1: the numbers that a take answers
abbrev pub TakeNumbers : Type 0
TakeNumbers =
    (b : Book) (e : Entry) (taken : Taken) → TakenAs b e taken
    → (taken.number ≡ 0) ⊎ ((taken.number ≡ 50) ⊎ ((taken.number ≡ 51) ⊎ ((taken.number ≡ 52) ⊎ (taken.number ≡ 53))))

-- what takes have left, takes of the held pairs alone leave too, one after the other from a new book; and none of these is
-- refused. So no number is held twice, nor are more than 200; and a book may be kept as the list of its pairs
abbrev pub TakesRebuild : Type 0
TakesRebuild =
    (es : List Entry) (answers : List ℕ) (last : Book) → Takes es answers last
    → (others : List ℕ) (again : Book) → Takes (held_in last) others again → (others ≡ replicate last.held 0) × (again ≡ last)

-- any two permitted outcomes coincide, whatever book is handed in
abbrev pub NewBookSettled : Type 0
NewBookSettled = Settled (λ (o : Book). NewBookAs o)

abbrev pub TakeSettled : Type 0
TakeSettled = (b : Book) (e : Entry) → Settled (λ (o : Taken). TakenAs b e o)
