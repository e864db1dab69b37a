-- Document 02, A7 (RULES 9.11): the book of taken files "answers as a plain set of pairs of number and day would". An entry
-- is such a pair, and so is what a take asks for: to take this number on this day. By A8 "each entry now also holds its
-- file's payments and whole euros", and a take passes them.
use Rattle.std.specs.Prelude.{ℕ, ◌-◌, Bool, cond, ◌||◌, List, [], ◌∷◌, ◌++◌, length, ◌==◌, nat_eq, nat_le, nat_lt}
use Rattle.laws.specs.Sums.{sum_of}
use Rattle.fields.specs.Lists.{some}
use Rattle.book.specs.declared.Entry.{Entry}

-- "forgotten once the day is five or more later"
abbrev pub is_forgotten : ℕ → Entry → Bool
is_forgotten day e = nat_le 5 (day - e.day)

-- the pairs that are not forgotten on a day
abbrev pub held_on : ℕ → List Entry → List Entry
held_on day [] = []
held_on day (e ∷ es) = cond (is_forgotten day e) (held_on day es) (e ∷ held_on day es)

-- a pair with this number is among them
abbrev pub holds : ℕ → List Entry → Bool
holds number es = some (λ (e : Entry). nat_eq e.number number) es

-- A8: "the sums over the held pairs": the payments of all, and the whole euros
abbrev pub payments_of : List Entry → ℕ
payments_of es = sum_of (λ (e : Entry). e.payments) es

abbrev pub euros_of : List Entry → ℕ
euros_of es = sum_of (λ (e : Entry). e.euros) es

-- the pairs, and the day of the last take that was not refused
pub record Model : Type 0 where
  pub day : ℕ
  pub held : List Entry

abbrev pub model : ℕ → List Entry → Model
model day held = record { day = day; held = held }

-- "A new book is on day 0"
abbrev pub empty : Model
empty = model 0 []

-- what is "then still held": on the day of a take
abbrev pub still_held : Model → Entry → List Entry
still_held m e = held_on e.day m.held

-- "Refusals, in order: 52 for a day earlier than the book's, 50 for a held number after forgetting, 51 exactly when 200 are
-- then still held." 0 is no refusal
abbrev pub pair_answer : Model → Entry → ℕ
pair_answer m e =
    cond (nat_lt e.day m.day) 52
    (cond (holds e.number (still_held m e)) 50 (cond (length (still_held m e) == 200) 51 0))

-- A8: "A take passes payments up to 9,999 and euros up to 999,999,999,999,999."
abbrev pub most_payments : ℕ
most_payments = 9999

abbrev pub most_euros : ℕ
most_euros = 999999999999999

-- a figure is above its limit
abbrev pub is_too_large : Entry → Bool
is_too_large e = nat_lt most_payments e.payments || nat_lt most_euros e.euros

-- A8: "53 for larger figures, before 52"
unfoldable pub answer_of : Model → Entry → ℕ
answer_of m e = cond (is_too_large e) 53 (pair_answer m e)

-- "A refused call leaves the book, its day included, unchanged."
unfoldable pub after : Model → Entry → Model
after m e = cond (answer_of m e == 0) (model e.day (still_held m e ++ (e ∷ []))) m
