-- Demand 1: "Any bytes, any country lists, any room may be handed in. Every call ends with an answer or a numbered refusal, and
-- a refused call changes no byte that it was lent." (RULES 9.1) Which numbers a call can answer, by document 01's table
-- (RULES 4, 6, 8) and document 02, A2: 7, A3: "6 is withdrawn"; show answers a part. Any page number may be handed in too, and
-- any reader; which numbers a reader answers is said of one that comes from a new one by the calls (Reading). And what is left
-- of lent memory: judge, reader, show and the program are lent nothing for writing; prepare, the strict way, is lent output
-- and note places, restore an output. Of prepare's default way, which is lent a list too, see Sorting, and of M8 records
-- filing/Filing.
use Rattle.std.specs.Prelude.{ℕ, ◌≤◌, ◌≡◌, List, ◌⊎◌}
use Rattle.judge.specs.Verdict.{JudgedAs}
use Rattle.judge.specs.declared.Verdict.{Verdict}
use Rattle.prepare.specs.Prepared.{PreparedAs}
use Rattle.prepare.specs.declared.Prepared.{Prepared}
use Rattle.restore.specs.Restored.{RestoredAs}
use Rattle.restore.specs.declared.Restored.{Restored}
use Rattle.reader.specs.Cuts.{Cut}
use Rattle.reader.specs.declared.Read.{Read}
use Rattle.report.specs.Report.{ToldAs}
use Rattle.report.specs.declared.Report.{Report}
use Rattle.demands.specs.Reading.{Reading}

-- rules 10 to 42, and all rules of a file
abbrev pub ContentRule : ℕ → Type 0
ContentRule n = ((10 ≤ n) × (n ≤ 16)) ⊎ (((20 ≤ n) × (n ≤ 35)) ⊎ ((40 ≤ n) × (n ≤ 42)))

abbrev pub FileRule : ℕ → Type 0
FileRule n = ((1 ≤ n) × (n ≤ 5)) ⊎ ContentRule n

abbrev pub JudgeNumbers : Type 0
JudgeNumbers =
    (page : ℕ) (file transfer cheque taken : List ℕ) (answer : Verdict) → JudgedAs page file transfer cheque taken answer
    → (answer.number ≡ 0) ⊎ (FileRule answer.number ⊎ ((answer.number ≡ 7) ⊎ (answer.number ≡ 50)))

abbrev pub PrepareNumbers : Type 0
PrepareNumbers =
    (page : ℕ) (file transfer cheque out notes out' notes' : List ℕ) (answer : Prepared)
    → PreparedAs page file transfer cheque out notes answer out' notes'
    → (answer.number ≡ 0) ⊎ (FileRule answer.number ⊎ ((answer.number ≡ 7) ⊎ ((answer.number ≡ 60) ⊎ (answer.number ≡ 61))))

abbrev pub RestoreNumbers : Type 0
RestoreNumbers =
    (page : ℕ) (sent notes transfer cheque out out' : List ℕ) (answer : Restored)
    → RestoredAs page sent notes transfer cheque out answer out'
    → (answer.number ≡ 0) ⊎ ((answer.number ≡ 7) ⊎ ((answer.number ≡ 60) ⊎ (answer.number ≡ 70)))

abbrev pub TellNumbers : Type 0
TellNumbers =
    (input : List ℕ) (answer : Report) → ToldAs input answer
    → (answer.verdict ≡ 0) ⊎ FileRule answer.verdict

abbrev pub ReadNumbers : Type 0
ReadNumbers =
    (page : ℕ) (cuts : List Cut) (taken : List ℕ) (read : Read) → Reading page cuts taken read
    → (read.answer.verdict.number ≡ 0)
    ⊎ (FileRule read.answer.verdict.number ⊎ ((read.answer.verdict.number ≡ 7) ⊎ (read.answer.verdict.number ≡ 50)))

abbrev pub PrepareKeeps : Type 0
PrepareKeeps =
    (page : ℕ) (file transfer cheque out notes out' notes' : List ℕ) (answer : Prepared)
    → PreparedAs page file transfer cheque out notes answer out' notes' → (answer.number ≡ 0 → ⊥) → (out' ≡ out) × (notes' ≡ notes)

abbrev pub RestoreKeeps : Type 0
RestoreKeeps =
    (page : ℕ) (sent notes transfer cheque out out' : List ℕ) (answer : Restored)
    → RestoredAs page sent notes transfer cheque out answer out' → (answer.number ≡ 0 → ⊥) → out' ≡ out
