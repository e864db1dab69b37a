-- Document 02, A5 (RULES 9.9): the default way of prepare, sentence by sentence. The kept file is `kept_file` of sorting/Kept:
-- "Q, the kept T records in their order and a Z with fresh Z3 and Z4".
use Rattle.std.specs.Prelude.{ℕ, ◌+◌, ◌*◌, ◌≤◌, ◌<◌, ◌≡◌, true, List, ◌⊎◌, ◌↔◌, length, get_or, take, drop}
use Rattle.laws.specs.Sums.{sum_of}
use Rattle.records.specs.declared.ZField.TheVariants.{Z3, Z4}
use Rattle.fields.specs.Number.{dec}
use Rattle.rules.specs.Z.{in_z}
use Rattle.rules.specs.Faults.{q_fault, z_fault}
use Rattle.payments.specs.Rules.{key_of}
use Rattle.payments.specs.Faults.{t_fault}
use Rattle.structure.specs.Slots.{slot_at}
use Rattle.structure.specs.Walk.{structure_of}
use Rattle.structure.specs.Shape.{Fits, Refused}
use Rattle.judge.specs.Sums.{euros, euro_sum}
use Rattle.judge.specs.Records.{MadeOf}
use Rattle.forwarding.specs.Forwarded.{notes_of}
use Rattle.forwarding.specs.Put.{put}
use Rattle.forwarding.specs.RoundTrip.{Bytes}
use Rattle.sorting.specs.Kept.{named_in, kept_file}
use Rattle.sorting.specs.Sorted.{unsorted, in_digits}
use Rattle.sorting.specs.declared.Sorted.{Sorted}
use Rattle.prepare.specs.Prepared.{done, PreparedAs}
use Rattle.prepare.specs.Default.{DefaultAs}
use Rattle.prepare.specs.declared.Prepared.{Prepared}
use Rattle.restore.specs.Restored.{RestoredAs}
use Rattle.restore.specs.declared.Restored.{Restored}
use Rattle.demands.specs.Page.{Page}
use Rattle.demands.specs.Broken.{Broken}
use Rattle.demands.specs.Demand2.{Sound}
use Rattle.demands.specs.Demand3.{Yields}
use Rattle.demands.specs.Forwarding.{Sent}
use Rattle.demands.specs.Settled.{Settled}

-- of rules that say 0 or a place: this one is broken, of those in a range, and none before it; and none is
pub record BrokenFirst (says : ℕ → ℕ) (from to rule : ℕ) : Type 0 where
  pub low : from ≤ rule
  pub high : rule ≤ to
  pub broken : says rule ≡ 0 → ⊥
  pub none_before : (r : ℕ) → from ≤ r → r < rule → says r ≡ 0

abbrev pub NoneOf : (ℕ → ℕ) → ℕ → ℕ → Type 0
NoneOf says from to = (rule : ℕ) → from ≤ rule → rule ≤ to → says rule ≡ 0

module _ (page : ℕ) (file transfer cheque : List ℕ) where
  -- what a T rule says of T record k. "Rule 21 compares with record 1 even if that one is returned."
  abbrev pub t_says : ℕ → ℕ → ℕ
  t_says k rule = t_fault page transfer cheque (key_of (slot_at file 1)) (slot_at file k) rule

  -- the first that T record k breaks of "T rules (20 to 35)"; or it breaks none
  abbrev pub BreaksFirst : ℕ → ℕ → Type 0
  BreaksFirst k rule = BrokenFirst (t_says k) 20 35 rule

  abbrev pub BreaksNone : ℕ → Type 0
  BreaksNone k = NoneOf (t_says k) 20 35

  -- "Each is named in a lent list of 32-bit numbers, record × 100 + first broken rule, rising", of n T records
  pub record Names (n : ℕ) (list : List ℕ) : Type 0 where
    pub every : (k rule : ℕ) → 1 ≤ k → k ≤ n → BreaksFirst k rule → (i : ℕ) × (i < length list) × (get_or list i 0 ≡ k * 100 + rule)
    pub only : (i : ℕ) → i < length list → (k : ℕ) × (rule : ℕ) × (1 ≤ k) × (k ≤ n) × BreaksFirst k rule × (get_or list i 0 ≡ k * 100 + rule)
    pub rising : (i j : ℕ) → i < j → j < length list → get_or list i 0 < get_or list j 0

-- the names that the definition gives, and that 63 counts, are these; and there is one such list
abbrev pub NamesAre : Type 0
NamesAre =
    (page : ℕ) (file transfer cheque : List ℕ) (n : ℕ) → structure_of file ≡ Fits n → Names page file transfer cheque n (named_in page file transfer cheque)

abbrev pub NamesAreOne : Type 0
NamesAreOne = (page : ℕ) (file transfer cheque : List ℕ) (n : ℕ) → Settled (λ (list : List ℕ). Names page file transfer cheque n list)

-- "The answer adds counts and euros, kept and returned [..]; they sum to the submitted Z4 and Z3." The submitted file is made
-- of q, ts and z, the kept one of q, ks and another z
pub record Figures (file kept : List ℕ) (answer : Sorted) : Type 0 where
  pub q : List ℕ
  pub ts : List (List ℕ)
  pub z : List ℕ
  pub made : MadeOf file q ts z
  pub ks : List (List ℕ)
  pub fresh : List ℕ
  pub kept_made : MadeOf kept q ks fresh
  pub kept_payments : answer.payments.kept ≡ length ks
  pub kept_euros : answer.euros.kept ≡ sum_of euros ks
  pub payments_add : answer.payments.kept + answer.payments.returned ≡ dec (in_z Z4 z)
  pub euros_add : answer.euros.kept + answer.euros.returned ≡ dec (in_z Z3 z)

-- what the default way leaves where it answers 0
pub record SentOn (page : ℕ) (file transfer cheque out notes list out' notes' list' : List ℕ) (answer : Sorted) : Type 0 where
  -- "it is sound"
  pub sound : Sound page transfer cheque (kept_file page file transfer cheque)
  -- what the strict way leaves for the kept file
  pub as_strict_does : PreparedAs page (kept_file page file transfer cheque) transfer cheque out notes (done answer.notes) out' notes'
  -- the list, and "places beyond stay"
  pub payments : ℕ
  pub long : length file ≡ 512 + 768 * payments
  pub listed : answer.payments.returned ≤ length list'
  pub names : Names page file transfer cheque payments (take answer.payments.returned list')
  pub list_rest : drop answer.payments.returned list' ≡ drop answer.payments.returned list
  pub figures : Figures file (kept_file page file transfer cheque) answer

abbrev pub SendsTheGoodOnes : Type 0
SendsTheGoodOnes =
    (page : ℕ) (file transfer cheque out notes list out' notes' list' : List ℕ) (answer : Sorted)
    → DefaultAs page file transfer cheque out notes list answer out' notes' list' → answer.number ≡ 0
    → SentOn page file transfer cheque out notes list out' notes' list' answer

-- "demands 2 and 3 and note places are read from it": demand 2 of the kept file, in its own words
abbrev pub DefaultForwards : Type 0
DefaultForwards =
    (page : ℕ) (file transfer cheque out notes list out' notes' list' : List ℕ) (answer : Sorted) → Bytes file
    → DefaultAs page file transfer cheque out notes list answer out' notes' list' → answer.number ≡ 0
    → Sent page (kept_file page file transfer cheque) transfer cheque out notes out' notes' answer.notes

-- demand 3: the kept file yields what is left, so no other sound file does, and restore gives it back
abbrev pub DefaultYields : Type 0
DefaultYields =
    (page : ℕ) (file transfer cheque out notes list out' notes' list' : List ℕ) (answer : Sorted) → Bytes file
    → DefaultAs page file transfer cheque out notes list answer out' notes' list' → answer.number ≡ 0
    → let kept = kept_file page file transfer cheque in
    Yields page transfer cheque kept (take (length kept) out') (take answer.notes notes')

abbrev pub DefaultTurnsBack : Type 0
DefaultTurnsBack =
    (page : ℕ) (file transfer cheque out notes list out' notes' list' room room' : List ℕ) (answer : Sorted) (restored : Restored) → Bytes file
    → DefaultAs page file transfer cheque out notes list answer out' notes' list' → answer.number ≡ 0
    → let kept = kept_file page file transfer cheque in
    RestoredAs page (take (length kept) out') (take answer.notes notes') transfer cheque room restored room' → length kept ≤ length room
    → (restored.number ≡ 0) × (room' ≡ put 0 kept room)

-- "callers of prepare as in document 01 ask for the strict way by name": where no T rule is broken, both ways answer alike
-- and leave the same, and nothing is named
abbrev pub as_strict : Sorted → Prepared
as_strict answer = record { number = answer.number; rec = answer.rec; notes = answer.notes }

abbrev pub AsStrict : Type 0
AsStrict =
    (page : ℕ) (file transfer cheque out notes list out' notes' list' : List ℕ) (answer : Sorted)
    → DefaultAs page file transfer cheque out notes list answer out' notes' list'
    → ((m j i : ℕ) → 20 ≤ m → m ≤ 35 → Broken page transfer cheque file m j i → ⊥)
    → PreparedAs page file transfer cheque out notes (as_strict answer) out' notes' × (list' ≡ list) × (answer.payments.returned ≡ 0)

-- the rules that refuse a file: structure, Q's, 33 for a non-digit, and Z's
abbrev pub RefusingRule : ℕ → Type 0
RefusingRule n = ((1 ≤ n) × (n ≤ 5)) ⊎ (((10 ≤ n) × (n ≤ 16)) ⊎ ((n ≡ 33) ⊎ ((40 ≤ n) × (n ≤ 42))))

-- demand 1: the numbers that it answers, and that a refused call changes no byte that it was lent; figures are "0 when refused"
abbrev pub DefaultNumbers : Type 0
DefaultNumbers =
    (page : ℕ) (file transfer cheque out notes list out' notes' list' : List ℕ) (answer : Sorted)
    → DefaultAs page file transfer cheque out notes list answer out' notes' list'
    → (answer.number ≡ 0)
    ⊎ (RefusingRule answer.number
    ⊎ ((answer.number ≡ 7) ⊎ ((answer.number ≡ 43) ⊎ ((answer.number ≡ 60) ⊎ ((answer.number ≡ 61) ⊎ (answer.number ≡ 63))))))

abbrev pub DefaultKeeps : Type 0
DefaultKeeps =
    (page : ℕ) (file transfer cheque out notes list out' notes' list' : List ℕ) (answer : Sorted)
    → DefaultAs page file transfer cheque out notes list answer out' notes' list' → (answer.number ≡ 0 → ⊥)
    → (out' ≡ out) × (notes' ≡ notes) × (list' ≡ list) × (answer ≡ unsorted answer.number answer.rec)

-- A2: never 7 on a page that there is, and the same answer on every other
abbrev pub DefaultPage : Type 0
DefaultPage =
    (page : ℕ) (file transfer cheque out notes list out' notes' list' : List ℕ) (answer : Sorted)
    → DefaultAs page file transfer cheque out notes list answer out' notes' list'
    → (Page page → answer.number ≡ 7 → ⊥)
    × ((Page page → ⊥) → (answer ≡ unsorted 7 0) × (out' ≡ out) × (notes' ≡ notes) × (list' ≡ list))

-- an outcome: the answer, and what is left of the output, of the note places and of the list
abbrev pub DefaultSettled : Type 0
DefaultSettled =
    (page : ℕ) (file transfer cheque out notes list : List ℕ)
    → Settled (λ (o : Sorted × List ℕ × List ℕ × List ℕ). DefaultAs page file transfer cheque out notes list o.0 o.1 o.2 o.3)

-- "Refusals: structure, Q rules, the 33 for a non-digit by rising record, then 40 to 42; then 43, record 0, when every T record
-- would be returned; then 60 and 61, measured on the kept file; then 63, record 0, when the list is too short."
module _ (page : ℕ) (file transfer cheque : List ℕ) where
  abbrev pub q_says : ℕ → ℕ
  q_says rule = q_fault page (slot_at file 0) rule

  -- Z is record n + 1, and speaks of all n submitted T records
  abbrev pub z_says : ℕ → ℕ → ℕ
  z_says n rule = z_fault n (euro_sum file n) (slot_at file (n + 1)) rule

  -- the first of n T records whose T14 has a non-digit; or all are digits
  pub record FirstSpoiled (n k : ℕ) : Type 0 where
    pub low : 1 ≤ k
    pub high : k ≤ n
    pub spoiled : in_digits (slot_at file k) ≡ true → ⊥
    pub none_before : (j : ℕ) → 1 ≤ j → j < k → in_digits (slot_at file j) ≡ true

  abbrev pub AllDigits : ℕ → Type 0
  AllDigits n = (k : ℕ) → 1 ≤ k → k ≤ n → in_digits (slot_at file k) ≡ true

  -- structure and Q are right, and there are n T records
  pub record Proper (n : ℕ) : Type 0 where
    pub fits : structure_of file ≡ Fits n
    pub q_right : NoneOf q_says 10 16

  -- and amounts, and Z: the payments are sorted
  pub record Sorts (n : ℕ) : Type 0 where
    pub proper : Proper n
    pub amounts : AllDigits n
    pub z_right : NoneOf (z_says n) 40 42

  -- and one of them goes on
  pub record Goes (n : ℕ) : Type 0 where
    pub sorts : Sorts n
    pub kept : ℕ
    pub low : 1 ≤ kept
    pub high : kept ≤ n
    pub right : BreaksNone page file transfer cheque kept

  -- number and record that are due, in A5's order
  module _ (out notes list : List ℕ) (number rec : ℕ) where
    -- it goes on, and the output has room for the kept file
    abbrev pub InFull : Type 0
    InFull = (n : ℕ) × Goes n × (length (kept_file page file transfer cheque) ≤ length out)

    abbrev pub DueAnswer : Type 0
    DueAnswer =
        (structure_of file ≡ Refused number rec)
        ⊎ (((n : ℕ) × (structure_of file ≡ Fits n) × BrokenFirst q_says 10 16 number × (rec ≡ 0))
        ⊎ (((n : ℕ) × Proper n × FirstSpoiled n rec × (number ≡ 33))
        ⊎ (((n : ℕ) × Proper n × AllDigits n × BrokenFirst (z_says n) 40 42 number × (rec ≡ n + 1))
        ⊎ (((n : ℕ) × Sorts n × ((k : ℕ) → 1 ≤ k → k ≤ n → BreaksNone page file transfer cheque k → ⊥) × (number ≡ 43) × (rec ≡ 0))
        ⊎ (((n : ℕ) × Goes n × (length out < length (kept_file page file transfer cheque)) × (number ≡ 60) × (rec ≡ 0))
        ⊎ ((InFull × (length notes < length (notes_of page (kept_file page file transfer cheque))) × (number ≡ 61) × (rec ≡ 0))
        ⊎ ((InFull × (length (notes_of page (kept_file page file transfer cheque)) ≤ length notes) × (length list < length (named_in page file transfer cheque)) × (number ≡ 63) × (rec ≡ 0))
        ⊎ (InFull × (length (notes_of page (kept_file page file transfer cheque)) ≤ length notes) × (length (named_in page file transfer cheque) ≤ length list) × (number ≡ 0) × (rec ≡ 0)))))))))

abbrev pub DefaultRefuses : Type 0
DefaultRefuses =
    (page : ℕ) (file transfer cheque out notes list out' notes' list' : List ℕ) (answer : Sorted) → Page page
    → DefaultAs page file transfer cheque out notes list answer out' notes' list'
    → (number rec : ℕ) → ((answer.number ≡ number) × (answer.rec ≡ rec)) ↔ DueAnswer page file transfer cheque out notes list number rec
