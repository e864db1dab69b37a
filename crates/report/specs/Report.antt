-- Document 01 (RULES 9.7): the program "lends no taken numbers and counts the changed characters". "Refused: the last four
-- lines show 0." Document 02, A2: "The program uses page 1"; A3: it reads its input as it arrives, "the answer is given only
-- at the end".
use Rattle.std.specs.Prelude.{ℕ, ◌≡◌, cond, List, [], eqb, length}
use Rattle.judge.specs.Verdict.{judge_of}
use Rattle.forwarding.specs.Forwarded.{notes_of}
use Rattle.reader.specs.declared.Answer.{Answer}
use Rattle.reader.specs.declared.Reader.{Reader}
use Rattle.reader.specs.Cuts.{Cut, LentWith}
use Rattle.reader.specs.State.{answered, end_of, NewAs, FedAs, FedTo}
use Rattle.report.specs.Annexes.{annex_i, annex_ii}
use Rattle.report.specs.declared.Report.{Report}

-- the seven lines: document 02, A1: "the program prints `at=` after `record=`"
abbrev pub lines : Answer → Report
lines a =
    record {
      verdict = a.verdict.number;
      rec = a.verdict.rec;
      at = a.verdict.at;
      payments = a.verdict.payments;
      euros = a.verdict.euros;
      cents = a.verdict.cents;
      changes = a.changes;
    }

abbrev pub program_page : ℕ
program_page = 1

-- what is to be said of an input
unfoldable pub report_of : List ℕ → Report
report_of input =
    let v = judge_of program_page input annex_ii annex_i [] in
    lines (answered v (cond (eqb v.number 0) (length (notes_of program_page input)) 0))

abbrev pub ToldAs : List ℕ → Report → Type 0
ToldAs input answer = answer ≡ report_of input

-- what is promised of the program's three steps: it starts with a new reader, hands it each piece of the input, and says
-- what the end answers
abbrev pub StartedAs : Reader → Type 0
StartedAs r = NewAs program_page r

abbrev pub ReadOnAs : Reader → List ℕ → Reader → Type 0
ReadOnAs r piece next = FedAs r piece annex_ii annex_i next

-- the input in pieces, cut after cut, each with the two annexes
pub record HasRead (pieces : List Cut) (r : Reader) : Type 0 where
  pub first : Reader
  pub started : StartedAs first
  pub lists : LentWith annex_ii annex_i pieces
  pub read : FedTo first pieces r

unfoldable pub said_of : Reader → Report
said_of r = lines (end_of r []).answer

abbrev pub SaidAs : Reader → Report → Type 0
SaidAs r answer = answer ≡ said_of r
