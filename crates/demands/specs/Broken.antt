-- Document 01, "Rules and refusal numbers" (RULES 4, 6, 7): when a rule is broken, where, and in which order. Nothing
-- here walks: a record stands at the place that its number gives it.
use Rattle.std.specs.Prelude.{ℕ, zero, suc, ◌-◌, ◌<◌, ◌≡◌, Bool, true, ◌&&◌, not, cond, List, [], ◌∷◌, ◌⊎◌, eqb, leb, ltb, length}
use Prim.Native.Char.{code}
use Rattle.rules.specs.Faults.{q_fault, z_fault}
use Rattle.payments.specs.Rules.{key_of}
use Rattle.payments.specs.Faults.{t_fault}
use Rattle.fields.specs.Class.{same}
use Rattle.structure.specs.Slots.{slot_at}
use Rattle.structure.specs.Walk.{letter_of, digits_of, allowed, length_for, digits_for}
use Rattle.judge.specs.Sums.{euro_sum}

-- A rule is broken at a record, at its turn there: 0 for rule 1, of rules 2 to 5 the turn in the paper's list, of the
-- content rules the number itself.

-- rule 1: "file longer than 7,679,744 bytes", at record 0
pub record TooLong (file : List ℕ) (number rec turn : ℕ) : Type 0 where
  pub rule : number ≡ 1
  pub first_record : rec ≡ 0
  pub first_turn : turn ≡ 0
  pub long : 7679744 < length file

-- "Walk, at each record" (RULES 4.1): the paper's list of rules 2 to 5, each with what breaks it in the slot of record k
abbrev pub walk_rules : ℕ → List ℕ → List (ℕ × Bool)
walk_rules k slot =
    (2, ltb (length slot) 5)
    ∷ (4, not (allowed k (letter_of slot)))
    ∷ (3, not (same (digits_of slot) (digits_for (letter_of slot))))
    ∷ (2, ltb (length slot) (length_for (letter_of slot)))
    ∷ (5, eqb (letter_of slot) (code "Z") && ltb 256 (length slot))
    ∷ []

-- the rule at a turn of a list has this number, and is broken
abbrev pub BrokenIn : List (ℕ × Bool) → ℕ → ℕ → Type 0
BrokenIn [] turn number = ⊥
BrokenIn (row ∷ rows) zero number = (row.0 ≡ number) × (row.1 ≡ true)
BrokenIn (row ∷ rows) (suc turn) number = BrokenIn rows turn number

-- record k breaks none of them
abbrev pub Whole : List ℕ → ℕ → Type 0
Whole file k = (turn number : ℕ) → BrokenIn (walk_rules k (slot_at file k)) turn number → ⊥

-- record k is whole, and no Z
pub record Passed (file : List ℕ) (k : ℕ) : Type 0 where
  pub whole : Whole file k
  pub no_z : letter_of (slot_at file k) ≡ code "Z" → ⊥

-- record k is due: every record before it is whole, and none is a Z
abbrev pub Due : List ℕ → ℕ → Type 0
Due file k = (j : ℕ) → j < k → Passed file j

-- rules 2 to 5, at a record that is due
pub record Unfit (file : List ℕ) (number rec turn : ℕ) : Type 0 where
  pub due : Due file rec
  pub broken : BrokenIn (walk_rules rec (slot_at file rec)) turn number

-- what a rule from 10 to 42 says of a whole record, by its letter; a Z speaks of the rec - 1 T records before it
abbrev pub says : ℕ → List ℕ → List ℕ → List ℕ → ℕ → ℕ → ℕ
says page transfer cheque file rec rule =
    cond (eqb (letter_of (slot_at file rec)) (code "Q")) (q_fault page (slot_at file rec) rule)
    (cond (eqb (letter_of (slot_at file rec)) (code "T")) (t_fault page transfer cheque (key_of (slot_at file 1)) (slot_at file rec) rule)
    (z_fault (rec - 1) (euro_sum file (rec - 1)) (slot_at file rec) rule))

-- rules 10 to 42, at a whole record
pub record Wrong (page : ℕ) (transfer cheque file : List ℕ) (number rec turn : ℕ) : Type 0 where
  pub own_turn : turn ≡ number
  pub due : Due file rec
  pub whole : Whole file rec
  pub broken : says page transfer cheque file rec number ≡ 0 → ⊥

-- rule number is broken at record rec, at this turn
abbrev pub Broken : ℕ → List ℕ → List ℕ → List ℕ → ℕ → ℕ → ℕ → Type 0
Broken page transfer cheque file number rec turn =
    TooLong file number rec turn ⊎ (Unfit file number rec turn ⊎ Wrong page transfer cheque file number rec turn)

-- "Structure is walked first over the whole file; then content, record by record, in rising rule number within a record."
-- Rule 1 comes "before anything else" (RULES 7)
abbrev pub stage : ℕ → ℕ
stage number = cond (eqb number 1) 0 (cond (leb number 5) 1 2)

-- rule m at record j and turn i comes before rule number at record rec and this turn
abbrev pub Before : ℕ → ℕ → ℕ → ℕ → ℕ → ℕ → Type 0
Before m j i number rec turn = (stage m < stage number) ⊎ ((stage m ≡ stage number) × ((j < rec) ⊎ ((j ≡ rec) × (i < turn))))
