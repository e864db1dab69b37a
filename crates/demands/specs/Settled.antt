-- Document 01, "What every promise settles" (RULES 14): "For each input, refused ones too, a public call's promise
-- leaves one possible answer and one possible content of all memory it was lent. That any two permitted outcomes
-- coincide is proved". Over the predicates that the calls' `ensures` state, and on any page, also one that does not exist.
-- `desk_judge_full`, `desk_prepare_strict`, `desk_restore` and the three calls of a reader promise the same as the calls below
-- them. Of prepare it is the strict way here; of the default way, and so of `desk_prepare`, see Sorting, and of M8 records, and
-- so of `desk_m8`, filing/Filing; of a book, and so of `desk_book_new`, `desk_book_take` and `desk_book_totals`,
-- keeping/Keeping and keeping/Totals.
-- `ToldAs` is what the program's steps come to (Program `SaysOfInput`).
use Rattle.std.specs.Prelude.{ℕ, ◌≡◌, List}
use Rattle.judge.specs.Verdict.{JudgedAs}
use Rattle.judge.specs.declared.Verdict.{Verdict}
use Rattle.prepare.specs.Prepared.{PreparedAs}
use Rattle.prepare.specs.declared.Prepared.{Prepared}
use Rattle.restore.specs.Restored.{RestoredAs}
use Rattle.restore.specs.declared.Restored.{Restored}
use Rattle.show.specs.Shown.{ShownAs}
use Rattle.reader.specs.State.{NewAs, FedAs, EndedAs}
use Rattle.reader.specs.declared.Reader.{Reader}
use Rattle.reader.specs.declared.Read.{Read}
use Rattle.report.specs.Report.{ToldAs, SaidAs}
use Rattle.report.specs.declared.Report.{Report}
use Rattle.host.specs.Answers.{CodedAs, PlacedAs}
use Rattle.host.specs.declared.Part.{Part}

-- an outcome is permitted, and any two that are permitted coincide
pub record Settled {A : Type 0} (Permitted : A → Type 0) : Type 0 where
  pub some : (a : A) × Permitted a
  pub coincide : (a b : A) → Permitted a → Permitted b → a ≡ b

abbrev pub JudgeSettled : Type 0
JudgeSettled = (page : ℕ) (file transfer cheque taken : List ℕ) → Settled (λ (o : Verdict). JudgedAs page file transfer cheque taken o)

-- an outcome of prepare: the answer, and what is left of the output and of the note places
abbrev pub PrepareSettled : Type 0
PrepareSettled =
    (page : ℕ) (file transfer cheque out notes : List ℕ)
    → Settled (λ (o : Prepared × List ℕ × List ℕ). PreparedAs page file transfer cheque out notes o.0 o.1 o.2)

abbrev pub RestoreSettled : Type 0
RestoreSettled =
    (page : ℕ) (sent notes transfer cheque out : List ℕ)
    → Settled (λ (o : Restored × List ℕ). RestoredAs page sent notes transfer cheque out o.0 o.1)

-- an outcome of show: where the part begins in the caller's memory, and its bytes
abbrev pub ShowSettled : Type 0
ShowSettled = (from : ℕ × ℕ) (file : List ℕ) (k f : ℕ) → Settled (λ (o : (ℕ × ℕ) × List ℕ). ShownAs from file k f o.0 o.1)

-- the program's numbers, and the two calls of hosts that have a promise of their own
abbrev pub TellSettled : Type 0
TellSettled = (input : List ℕ) → Settled (λ (o : Report). ToldAs input o)

abbrev pub DeskJudgeSettled : Type 0
DeskJudgeSettled = (file transfer cheque : List ℕ) → Settled (λ (o : ℕ). CodedAs file transfer cheque o)

abbrev pub DeskShowSettled : Type 0
DeskShowSettled = (file : List ℕ) (k f : ℕ) → Settled (λ (o : Part). PlacedAs file k f o)

-- the reader's three calls, whatever reader is handed in; and what the program says at its end
abbrev pub NewSettled : Type 0
NewSettled = (page : ℕ) → Settled (λ (o : Reader). NewAs page o)

abbrev pub FeedSettled : Type 0
FeedSettled = (r : Reader) (cut transfer cheque : List ℕ) → Settled (λ (o : Reader). FedAs r cut transfer cheque o)

abbrev pub EndSettled : Type 0
EndSettled = (r : Reader) (taken : List ℕ) → Settled (λ (o : Read). EndedAs r taken o)

abbrev pub SaySettled : Type 0
SaySettled = (r : Reader) → Settled (λ (o : Report). SaidAs r o)
