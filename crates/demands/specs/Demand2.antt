-- Demand 2: "A file is sound exactly when it breaks no rule; otherwise the answer is the first broken rule in the stated
-- order, with its record." (RULES 7) And the place in that record that document 02, A1, asks for (RULES 7.1). And what the
-- judge answers of it (RULES 9.2). Document 02, A2: "under a fixed code page and fixed lists".
use Rattle.std.specs.Prelude.{ℕ, ◌≡◌, List, ◌↔◌, true, false, length}
use Rattle.laws.specs.Sums.{sum_of}
use Rattle.fields.specs.Lists.{is_taken}
use Rattle.structure.specs.Slots.{slot_at}
use Rattle.judge.specs.Sums.{euros, cents, file_number}
use Rattle.judge.specs.Records.{MadeOf}
use Rattle.judge.specs.Verdict.{verdict_of, JudgedAs}
use Rattle.judge.specs.declared.Verdict.{Verdict}
use Rattle.demands.specs.Page.{Page}
use Rattle.demands.specs.Broken.{Broken, Before}
use Rattle.demands.specs.Where.{Points}

-- the file breaks no rule, at any record
abbrev pub Sound : ℕ → List ℕ → List ℕ → List ℕ → Type 0
Sound page transfer cheque file = (m j i : ℕ) → Broken page transfer cheque file m j i → ⊥

-- a broken rule before which none is broken
module _ (page : ℕ) (transfer cheque file : List ℕ) (number rec : ℕ) where
  pub record First : Type 0 where
    pub turn : ℕ
    pub there : Broken page transfer cheque file number rec turn
    pub none_before : (m j i : ℕ) → Before m j i number rec turn → Broken page transfer cheque file m j i → ⊥

  pub record Answered (at : ℕ) : Type 0 where
    pub sound : (number ≡ 0) ↔ Sound page transfer cheque file
    pub first : (number ≡ 0 → ⊥) → First
    pub place : Points page transfer cheque file number rec at

abbrev pub Judged : Type 0
Judged =
    (page : ℕ) (transfer cheque file : List ℕ)
    → let v = verdict_of page file transfer cheque in
    Answered page transfer cheque file v.number v.rec v.at

-- there is one first broken rule at most
abbrev pub FirstIsOne : Type 0
FirstIsOne =
    (page : ℕ) (transfer cheque file : List ℕ) (m j n k : ℕ) (a : First page transfer cheque file m j) (b : First page transfer cheque file n k)
    → (m ≡ n) × (j ≡ k) × (a.turn ≡ b.turn)

-- "if 0, [..] the number of payments, the euro sum of T14a and the cent sum", over the records that make up the file
pub record Counted (file : List ℕ) (answer : Verdict) : Type 0 where
  pub q : List ℕ
  pub ts : List (List ℕ)
  pub z : List ℕ
  pub made : MadeOf file q ts z
  pub payments_are : answer.payments ≡ length ts
  pub euros_are : answer.euros ≡ sum_of euros ts
  pub cents_are : answer.cents ≡ sum_of cents ts

-- "If refused, these three are 0."
abbrev pub Zeros : Verdict → Type 0
Zeros answer = (answer.payments ≡ 0) × (answer.euros ≡ 0) × (answer.cents ≡ 0)

-- the judge's own answer: "Rule 50 belongs to the judge alone and comes after all others"
module _ (page : ℕ) (transfer cheque taken file : List ℕ) where
  pub record Judges (answer : Verdict) : Type 0 where
    pub free : Sound page transfer cheque file → is_taken taken (file_number (slot_at file 0)) ≡ false
        → (answer.number ≡ 0) × (answer.rec ≡ 0) × (answer.at ≡ 0) × Counted file answer
    pub used : Sound page transfer cheque file → is_taken taken (file_number (slot_at file 0)) ≡ true
        → (answer.number ≡ 50) × (answer.rec ≡ 0) × (answer.at ≡ 0) × Zeros answer
    pub unsound : (Sound page transfer cheque file → ⊥)
        → First page transfer cheque file answer.number answer.rec
        × Points page transfer cheque file answer.number answer.rec answer.at × Zeros answer

abbrev pub JudgeAnswers : Type 0
JudgeAnswers =
    (page : ℕ) (file transfer cheque taken : List ℕ) (answer : Verdict) → Page page → JudgedAs page file transfer cheque taken answer
    → Judges page transfer cheque taken file answer
