-- Document 02, A3 (RULES 9.8): "Wanted is a reader that takes any cuts, also empty [..]. Its state is handed in and comes back
-- changed with each cut. The code page is named once, at the start. The country lists are lent with each cut [..]; the taken
-- list at the end." What the answer is, is said by the cuts alone in reader/Cuts; that a reader gives it, whatever the cuts,
-- is said here.
use Rattle.std.specs.Prelude.{ℕ, ◌<◌, ◌≡◌, List, length}
use Rattle.judge.specs.Verdict.{refused, JudgedAs}
use Rattle.forwarding.specs.RoundTrip.{Bytes}
use Rattle.reader.specs.declared.Answer.{Answer}
use Rattle.reader.specs.declared.Reader.{Reader}
use Rattle.reader.specs.declared.Read.{Read}
use Rattle.reader.specs.Cuts.{Cut, joined, LentWith, reading_of}
use Rattle.reader.specs.State.{NewAs, FedAs, FedTo, EndedAs}
use Rattle.demands.specs.Page.{Page}
use Rattle.demands.specs.Forwarding.{Listed}

-- a reading, as the calls promise it: a new reader of the page, cut after cut, and the end
pub record Reading (page : ℕ) (cuts : List Cut) (taken : List ℕ) (read : Read) : Type 0 where
  pub first : Reader
  pub last : Reader
  pub new : NewAs page first
  pub fed : FedTo first cuts last
  pub ended : EndedAs last taken read

-- whatever the cuts and their lists, the end answers what the reading means
abbrev pub ReadAnswers : Type 0
ReadAnswers =
    (page : ℕ) (cuts : List Cut) (taken : List ℕ) (read : Read) → Reading page cuts taken read → read.answer ≡ reading_of page cuts taken

-- "where all cuts came with the same lists, equals the judge's over the joined bytes, with the number of changes (0 if refused)"
pub record AsJudged (page : ℕ) (file transfer cheque taken : List ℕ) (answer : Answer) : Type 0 where
  pub judged : JudgedAs page file transfer cheque taken answer.verdict
  pub counted : Bytes file → (notes : List ℕ) → Listed page file notes → answer.verdict.number ≡ 0 → answer.changes ≡ length notes
  pub refused : (answer.verdict.number ≡ 0 → ⊥) → answer.changes ≡ 0

abbrev pub ReadsAsJudged : Type 0
ReadsAsJudged =
    (page : ℕ) (cuts : List Cut) (transfer cheque taken : List ℕ) (read : Read) → LentWith transfer cheque cuts → Reading page cuts taken read
    → AsJudged page (joined cuts) transfer cheque taken read.answer

-- so two ways to cut the same bytes answer alike
abbrev pub CutsAlike : Type 0
CutsAlike =
    (page : ℕ) (cuts others : List Cut) (transfer cheque taken : List ℕ) (read other : Read) → joined cuts ≡ joined others
    → LentWith transfer cheque cuts → LentWith transfer cheque others → Reading page cuts taken read → Reading page others taken other
    → read.answer ≡ other.answer

-- "Asking for the end again gives the same answer, whatever list is lent": of any reader
abbrev pub EndsOnce : Type 0
EndsOnce =
    (r : Reader) (taken others : List ℕ) (read again : Read) → EndedAs r taken read → EndedAs read.reader others again → again ≡ read

-- "bytes handed in after the end change nothing"
abbrev pub EndIsLast : Type 0
EndIsLast =
    (r : Reader) (taken cut transfer cheque : List ℕ) (read : Read) (next : Reader) → EndedAs r taken read
    → FedAs read.reader cut transfer cheque next → next ≡ read.reader

-- 7 comes before everything: never on a page that there is, and on every other whatever the cuts
abbrev pub ReadPage : Type 0
ReadPage =
    (page : ℕ) (cuts : List Cut) (taken : List ℕ) (read : Read) → Reading page cuts taken read
    → (Page page → read.answer.verdict.number ≡ 7 → ⊥) × ((Page page → ⊥) → read.answer ≡ record { verdict = refused 7 0 0; changes = 0 })

-- "rule 1 outranks all but 7": whatever the cuts and their lists
abbrev pub ReadTooLong : Type 0
ReadTooLong =
    (page : ℕ) (cuts : List Cut) (taken : List ℕ) (read : Read) → Reading page cuts taken read → Page page
    → 7679744 < length (joined cuts) → read.answer ≡ record { verdict = refused 1 0 0; changes = 0 }
