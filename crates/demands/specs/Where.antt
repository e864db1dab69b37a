-- Document 02, A1 (RULES 7.1): "The judge's answer gets a third number: the offset, in its record, of the lowest-placed field
-- that breaks the reported rule." When a field breaks a rule is said once, in the rule's own definition: the fields that can
-- break it, each with its offset and whether it is as it should be. Of which payments a rule speaks is said here again, and
-- of rule 33 the paper's sentence; that all this agrees with what the rules answer is proved.
use Rattle.std.specs.Prelude.{ℕ, ◌-◌, ◌≤◌, ◌≡◌, Bool, false, ◌&&◌, ◌||◌, not, cond, List, [], ◌∷◌, ◌⊎◌, ◌↔◌, eqb}
use Prim.Native.Char.{code}
use Rattle.records.specs.Places.{◌to◌, part, t_place}
use Rattle.records.specs.declared.TField.TheVariants.{T9b, T10b, T14a, T14b}
use Rattle.fields.specs.Class.{all_of}
use Rattle.fields.specs.declared.Class.TheVariants.{Digit, Zero}
use Rattle.rules.specs.Wrong.{Fields}
use Rattle.rules.specs.Q.{fields10, fields11, fields12, fields13, fields14, fields15, fields16}
use Rattle.rules.specs.Z.{fields40, fields41, fields42}
use Rattle.payments.specs.Rules.{in_t, key_of, is_transfer, is_cheque, fields20, fields21, fields22, fields23, fields24, fields25, fields26, fields27, fields28, fields29, fields30, transfers31, cheques31, fields32, fields33, fields34, fields35}
use Rattle.structure.specs.Slots.{slot_at}
use Rattle.structure.specs.Walk.{letter_of}
use Rattle.judge.specs.Sums.{euro_sum}
use Rattle.judge.specs.Verdict.{JudgedAs}
use Rattle.judge.specs.declared.Verdict.{Verdict}
use Rattle.report.specs.Report.{ToldAs}
use Rattle.report.specs.declared.Report.{Report}

-- in the payments of which a rule does not speak, no field breaks it
abbrev pub only : Bool → Fields → Fields
only applies fields = cond applies fields []

-- the fields that can break each rule, by its number
abbrev pub q_fields : ℕ → List ℕ → List (ℕ × Fields)
q_fields page rec =
    (10, fields10 rec) ∷ (11, fields11 rec) ∷ (12, fields12 page rec) ∷ (13, fields13 rec) ∷ (14, fields14 rec) ∷ (15, fields15 rec)
    ∷ (16, fields16 rec) ∷ []

abbrev pub t_fields : ℕ → List ℕ → List ℕ → List ℕ → List ℕ → List (ℕ × Fields)
t_fields page transfer cheque key rec =
    (20, fields20 rec) ∷ (21, fields21 key rec) ∷ (22, fields22 rec) ∷ (23, fields23 rec) ∷ (24, fields24 rec)
    ∷ (25, only (is_cheque rec) (fields25 page rec))
    ∷ (26, only (is_transfer rec) (fields26 page transfer rec))
    ∷ (27, only (is_transfer rec) (fields27 page rec))
    ∷ (28, cond (is_transfer rec) (fields28 transfer rec) (only (is_cheque rec) (fields28 cheque rec)))
    ∷ (29, fields29 page rec) ∷ (30, fields30 rec)
    ∷ (31, cond (is_transfer rec) (transfers31 page rec) (only (is_cheque rec) (cheques31 page rec)))
    ∷ (32, fields32 rec) ∷ (33, fields33 rec) ∷ (34, fields34 rec) ∷ (35, fields35 rec) ∷ []

abbrev pub z_fields : ℕ → ℕ → List ℕ → List (ℕ × Fields)
z_fields payments euros rec = (40, fields40 rec) ∷ (41, fields41 payments rec) ∷ (42, fields42 euros rec) ∷ []

abbrev pub of_rule : List (ℕ × Fields) → ℕ → Fields
of_rule [] rule = []
of_rule (row ∷ rows) rule = cond (eqb rule row.0) row.1 (of_rule rows rule)

-- the fields of record rec that can break a rule, by the record's letter; a Z speaks of the rec - 1 T records before it
abbrev pub fields_of : ℕ → List ℕ → List ℕ → List ℕ → ℕ → ℕ → Fields
fields_of page transfer cheque file rec rule =
    cond (eqb (letter_of (slot_at file rec)) (code "Q")) (of_rule (q_fields page (slot_at file rec)) rule)
    (cond (eqb (letter_of (slot_at file rec)) (code "T")) (of_rule (t_fields page transfer cheque (key_of (slot_at file 1)) (slot_at file rec)) rule)
    (of_rule (z_fields (rec - 1) (euro_sum file (rec - 1)) (slot_at file rec)) rule))

-- a field at this offset breaks the rule
abbrev pub WrongAt : Fields → ℕ → Type 0
WrongAt [] at = ⊥
WrongAt (field ∷ fields) at = ((field.0 ≡ at) × (field.1 ≡ false)) ⊎ WrongAt fields at

-- and it is the lowest-placed one
pub record Lowest (fields : Fields) (at : ℕ) : Type 0 where
  pub wrong : WrongAt fields at
  pub none_lower : (other : ℕ) → WrongAt fields other → at ≤ other

-- "Rule 33 points to T14a when T14a has a non-digit, or when T14a and T14b are all digits and the amount is zero; else to
-- T14b."
abbrev pub amount_zero : List ℕ → Bool
amount_zero rec = all_of Zero (in_t T14a rec) && all_of Zero (part (0 to 1) (in_t T14b rec))

abbrev pub points_to_t14a : List ℕ → Bool
points_to_t14a rec = not (all_of Digit (in_t T14a rec)) || (all_of Digit (in_t T14a rec) && all_of Digit (in_t T14b rec) && amount_zero rec)

abbrev pub amount_at : List ℕ → ℕ
amount_at rec = cond (points_to_t14a rec) (t_place T14a).start (t_place T14b).start

-- where the answer to a file points: "Rules 1 to 6, 50 and a sound file give 0" (6 is withdrawn, 50 is no rule of a file)
pub record Points (page : ℕ) (transfer cheque file : List ℕ) (number rec at : ℕ) : Type 0 where
  pub nowhere : number ≤ 5 → at ≡ 0
  pub lowest : 10 ≤ number → (number ≡ 33 → ⊥) → Lowest (fields_of page transfer cheque file rec number) at
  pub amount : number ≡ 33 → at ≡ amount_at (slot_at file rec)

-- an answer points to one place at most
abbrev pub PlaceIsOne : Type 0
PlaceIsOne =
    (page : ℕ) (transfer cheque file : List ℕ) (number rec a b : ℕ) → (number ≤ 5) ⊎ (10 ≤ number)
    → Points page transfer cheque file number rec a → Points page transfer cheque file number rec b → a ≡ b

-- "Rules 27 and 29 point to T9b and T10b, rule 41 to 20, rule 42 to 5."
pub record Named (number at : ℕ) : Type 0 where
  pub rule27 : number ≡ 27 → at ≡ (t_place T9b).start
  pub rule29 : number ≡ 29 → at ≡ (t_place T10b).start
  pub rule41 : number ≡ 41 → at ≡ 20
  pub rule42 : number ≡ 42 → at ≡ 5

abbrev pub PlacesNamed : Type 0
PlacesNamed =
    (page : ℕ) (file transfer cheque taken : List ℕ) (answer : Verdict) → JudgedAs page file transfer cheque taken answer
    → Named answer.number answer.at

-- "Rules 1 to 6, 50 and a sound file give 0", and by A2 7, and nothing else does
abbrev pub JudgeAtZero : Type 0
JudgeAtZero =
    (page : ℕ) (file transfer cheque taken : List ℕ) (answer : Verdict) → JudgedAs page file transfer cheque taken answer
    → (answer.at ≡ 0) ↔ ((answer.number ≤ 5) ⊎ ((answer.number ≡ 7) ⊎ (answer.number ≡ 50)))

abbrev pub TellAtZero : Type 0
TellAtZero = (input : List ℕ) (answer : Report) → ToldAs input answer → (answer.at ≡ 0) ↔ (answer.verdict ≤ 5)
