-- Document 01, the program (RULES 9.7) and the judge for payroll hosts (RULES 9.3). "It lends no taken numbers and counts the
-- changed characters whatever note places it has, so it never shows 50, 60 or 61." "Refused: the last four lines show 0."
-- Document 02, A2: "The program uses page 1; the C call stays on page 0." A3: "The 84-payment limit of the program must go",
-- "6 is withdrawn"; it reads standard input in pieces.
use Rattle.std.specs.Prelude.{ℕ, ◌/◌, ◌%◌, ◌≡◌, List, [], length}
use Rattle.judge.specs.Verdict.{JudgedAs}
use Rattle.judge.specs.declared.Verdict.{Verdict}
use Rattle.forwarding.specs.RoundTrip.{Bytes}
use Rattle.report.specs.Annexes.{annex_i, annex_ii}
use Rattle.reader.specs.Cuts.{Cut, joined}
use Rattle.reader.specs.declared.Reader.{Reader}
use Rattle.report.specs.Report.{ToldAs, HasRead, SaidAs}
use Rattle.report.specs.declared.Report.{Report}
use Rattle.host.specs.Answers.{CodedAs}
use Rattle.demands.specs.Forwarding.{Listed}

-- what a report says of the file
abbrev pub verdict_in : Report → Verdict
verdict_in answer =
    record { number = answer.verdict; rec = answer.rec; at = answer.at; payments = answer.payments; euros = answer.euros; cents = answer.cents }

pub record Tells (input : List ℕ) (answer : Report) : Type 0 where
  pub judged : JudgedAs 1 input annex_ii annex_i [] (verdict_in answer)
  pub counted : Bytes input → (changes : List ℕ) → Listed 1 input changes → answer.verdict ≡ 0 → answer.changes ≡ length changes
  pub refused : (answer.verdict ≡ 0 → ⊥)
      → (answer.payments ≡ 0) × (answer.euros ≡ 0) × (answer.cents ≡ 0) × (answer.changes ≡ 0)

-- whatever the pieces, the program says what is to be said of the whole input
abbrev pub SaysOfInput : Type 0
SaysOfInput =
    (pieces : List Cut) (r : Reader) (answer : Report) → HasRead pieces r → SaidAs r answer → ToldAs (joined pieces) answer

abbrev pub TellAnswers : Type 0
TellAnswers = (input : List ℕ) (answer : Report) → ToldAs input answer → Tells input answer

abbrev pub NeverShows : Type 0
NeverShows =
    (input : List ℕ) (answer : Report) → ToldAs input answer
    → (answer.verdict ≡ 50 → ⊥) × (answer.verdict ≡ 60 → ⊥) × (answer.verdict ≡ 61 → ⊥)

-- "record × 100 + number" tells both
abbrev pub DeskJudgeTells : Type 0
DeskJudgeTells =
    (file transfer cheque : List ℕ) (answer : ℕ) (verdict : Verdict) → CodedAs file transfer cheque answer
    → JudgedAs 0 file transfer cheque [] verdict → (answer / 100 ≡ verdict.rec) × (answer % 100 ≡ verdict.number)
