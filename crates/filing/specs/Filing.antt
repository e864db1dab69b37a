-- Document 02, A6 (RULES 9.10): M8 records, sentence by sentence. What is returned, and the list that names it, are A5's
-- (demands/Sorting): `named_in` of sorting/Kept is that list.
use Rattle.std.specs.Prelude.{ℕ, zero, suc, ◌+◌, ◌*◌, ◌-◌, ◌≤◌, ◌<◌, ◌≡◌, true, List, [], ◌∷◌, ◌++◌, ◌⊎◌, length, get_or, take, drop}
use Rattle.laws.specs.Ascii.{ascii, zeros, spaces}
use Rattle.laws.specs.Sums.{sum_of}
use Rattle.charset.specs.Table.{unchanged, text}
use Rattle.records.specs.Places.{◌to◌, part}
use Rattle.records.specs.declared.QField.TheVariants.{Q6, Q7}
use Rattle.records.specs.declared.TField.TheVariants.{T14a, T14b, T15}
use Rattle.fields.specs.Class.{every, all_of}
use Rattle.fields.specs.Number.{dec}
use Rattle.fields.specs.declared.Class.TheVariants.{Digit}
use Rattle.rules.specs.Q.{in_q}
use Rattle.payments.specs.Rules.{in_t}
use Rattle.structure.specs.Slots.{slot_at}
use Rattle.judge.specs.Sums.{cents}
use Rattle.sorting.specs.Kept.{returned_in, named_in}
use Rattle.sorting.specs.declared.Sorted.{Sorted}
use Rattle.prepare.specs.Default.{DefaultAs}
use Rattle.m8.specs.Filed.{not_filed, filed, FiledAs}
use Rattle.m8.specs.declared.Filed.{Filed}
use Rattle.demands.specs.Page.{Page}
use Rattle.demands.specs.Settled.{Settled}
use Rattle.demands.specs.Sorting.{RefusingRule}

-- a record of table 15, field by field: each with its first and its last byte, which follow from the column "Format". It is
-- that of a payment t whose first broken rule is this one, in a file with this Q
pub record OfPayment (page : ℕ) (q codes t : List ℕ) (rule : ℕ) (m8 : List ℕ) : Type 0 where
  pub dm8_1 : part (0 to 0) m8 ≡ ascii "D"
  pub dm8_2 : part (1 to 2) m8 ≡ ascii "M8"
  pub dm8_3 : part (3 to 8) m8 ≡ in_q Q6 q
  pub dm8_4 : part (9 to 13) m8 ≡ zeros 3 ++ in_q Q7 q
  pub dm8_5 : part (14 to 20) m8 ≡ zeros 7
  pub dm8_6 : part (21 to 36) m8 ≡ spaces 16
  pub dm8_7 : part (37 to 37) m8 ≡ spaces 1
  pub dm8_8 : part (38 to 55) m8 ≡ zeros 2 ++ (in_t T14a t ++ take 2 (in_t T14b t))
  -- "six bytes for each rule from 20 to 35 in order"
  pub dm8_9 : part (56 to 61) m8 ≡ take 6 (drop (6 * (rule - 20)) codes)
  -- "as customer reference the first line of T15 after replacement"
  pub dm8_10 : part (62 to 96) m8 ≡ text page (take 35 (in_t T15 t))
  pub dm8_11 : part (97 to 123) m8 ≡ spaces 27
  pub whole : length m8 ≡ 124

-- the first n records in the output
abbrev pub m8s : ℕ → List ℕ → List (List ℕ)
m8s zero out = []
m8s (suc n) out = take 124 out ∷ m8s n (drop 124 out)

-- what is left where 0 is answered, beside the names of the returned payments
pub record Files (page : ℕ) (file codes names out out' : List ℕ) (answer : Filed) : Type 0 where
  -- "The answer gives how many."
  pub many : answer.count ≡ length names
  -- "For each returned payment, in order": record i is that of the payment that is named at place i
  pub each : (i k rule : ℕ) → i < answer.count → rule < 100 → get_or names i 0 ≡ k * 100 + rule
      → OfPayment page (slot_at file 0) codes (slot_at file k) rule (get_or (m8s answer.count out') i [])
  -- "Bytes of the output after the last record keep their value."
  pub room : 124 * answer.count ≤ length out
  pub rest : drop (124 * answer.count) out' ≡ drop (124 * answer.count) out

abbrev pub FilesTheReturned : Type 0
FilesTheReturned =
    (page : ℕ) (file transfer cheque codes out out' : List ℕ) (answer : Filed)
    → FiledAs page file transfer cheque codes out answer out' → answer.number ≡ 0
    → Files page file codes (named_in page file transfer cheque) out out' answer

-- so are they beside the very list that a prepare of the same file left, where it answers 0: its first places, as many as it
-- says are returned
abbrev pub FilesAsListed : Type 0
FilesAsListed =
    (page : ℕ) (file transfer cheque codes out out' : List ℕ) (answer : Filed)
    → FiledAs page file transfer cheque codes out answer out' → answer.number ≡ 0
    → (room notes list room' notes' list' : List ℕ) (prepared : Sorted)
    → DefaultAs page file transfer cheque room notes list prepared room' notes' list' → prepared.number ≡ 0
    → Files page file codes (take prepared.payments.returned list') out out' answer

-- the amounts in the records add up to what prepare says is returned: its euros, and the cents of these payments
abbrev pub AmountsAddUp : Type 0
AmountsAddUp =
    (page : ℕ) (file transfer cheque codes out out' : List ℕ) (answer : Filed)
    → FiledAs page file transfer cheque codes out answer out' → answer.number ≡ 0
    → (room notes list room' notes' list' : List ℕ) (prepared : Sorted)
    → DefaultAs page file transfer cheque room notes list prepared room' notes' list' → prepared.number ≡ 0
    → sum_of (λ (m8 : List ℕ). dec (part (38 to 55) m8)) (m8s answer.count out')
    ≡ 100 * prepared.euros.returned + sum_of cents (returned_in page file transfer cheque)

-- every byte is one that the receiver carries: digits are digits, the reference is replaced text, and so is all that stands
-- before and behind the code; the whole record is, where the lent codes are of such bytes
pub record Carried (codes m8 : List ℕ) : Type 0 where
  pub date : all_of Digit (part (3 to 8) m8) ≡ true
  pub number : all_of Digit (part (9 to 13) m8) ≡ true
  pub amount : all_of Digit (part (38 to 55) m8) ≡ true
  pub reference : every unchanged (part (62 to 96) m8) ≡ true
  pub before : every unchanged (part (0 to 55) m8) ≡ true
  pub behind : every unchanged (part (62 to 123) m8) ≡ true
  pub all : every unchanged codes ≡ true → every unchanged m8 ≡ true

abbrev pub FiledCarried : Type 0
FiledCarried =
    (page : ℕ) (file transfer cheque codes out out' : List ℕ) (answer : Filed)
    → FiledAs page file transfer cheque codes out answer out' → answer.number ≡ 0
    → (i : ℕ) → i < answer.count → Carried codes (get_or (m8s answer.count out') i [])

-- "Refusals: A5's numbers up to 43 first, then 62 when the code table is not 96 bytes, then 60 when the output is too short,
-- both at record 0." Beside what prepare answers of the same file where its own rooms are long enough
abbrev pub FiledRefuses : Type 0
FiledRefuses =
    (page : ℕ) (file transfer cheque codes out out' : List ℕ) (answer : Filed)
    → FiledAs page file transfer cheque codes out answer out'
    → (room notes list room' notes' list' : List ℕ) (prepared : Sorted)
    → DefaultAs page file transfer cheque room notes list prepared room' notes' list' → prepared.number < 60
    → ((prepared.number ≡ 0 → ⊥) → answer ≡ not_filed prepared.number prepared.rec)
    × (prepared.number ≡ 0 → (length codes ≡ 96 → ⊥) → answer ≡ not_filed 62 0)
    × (prepared.number ≡ 0 → length codes ≡ 96 → length out < 124 * prepared.payments.returned → answer ≡ not_filed 60 0)
    × (prepared.number ≡ 0 → length codes ≡ 96 → 124 * prepared.payments.returned ≤ length out → answer ≡ filed prepared.payments.returned)

-- demand 1: the numbers that it answers, and that a refused call changes no byte that it was lent
abbrev pub FiledNumbers : Type 0
FiledNumbers =
    (page : ℕ) (file transfer cheque codes out out' : List ℕ) (answer : Filed)
    → FiledAs page file transfer cheque codes out answer out'
    → (answer.number ≡ 0)
    ⊎ (RefusingRule answer.number ⊎ ((answer.number ≡ 7) ⊎ ((answer.number ≡ 43) ⊎ ((answer.number ≡ 62) ⊎ (answer.number ≡ 60)))))

abbrev pub FiledKeeps : Type 0
FiledKeeps =
    (page : ℕ) (file transfer cheque codes out out' : List ℕ) (answer : Filed)
    → FiledAs page file transfer cheque codes out answer out' → (answer.number ≡ 0 → ⊥)
    → (out' ≡ out) × (answer ≡ not_filed answer.number answer.rec)

-- A2: never 7 on a page that there is, and the same answer on every other
abbrev pub FiledPage : Type 0
FiledPage =
    (page : ℕ) (file transfer cheque codes out out' : List ℕ) (answer : Filed)
    → FiledAs page file transfer cheque codes out answer out'
    → (Page page → answer.number ≡ 7 → ⊥) × ((Page page → ⊥) → (answer ≡ not_filed 7 0) × (out' ≡ out))

-- an outcome: the answer, and what is left of the output
abbrev pub FiledSettled : Type 0
FiledSettled =
    (page : ℕ) (file transfer cheque codes out : List ℕ)
    → Settled (λ (o : Filed × List ℕ). FiledAs page file transfer cheque codes out o.0 o.1)
