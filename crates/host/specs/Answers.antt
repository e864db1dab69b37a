-- Document 01: "Payroll hosts written in C call the judge with byte slices, without taken numbers, and get record × 100 +
-- number." (RULES 9.3) Document 02, A2: "the C call stays on page 0". And a shown field's place and length (RULES 9.6).
use Rattle.std.specs.Prelude.{ℕ, ◌+◌, ◌*◌, ◌-◌, ◌≡◌, List, []}
use Rattle.judge.specs.Verdict.{judge_of}
use Rattle.judge.specs.declared.Verdict.{Verdict}
use Rattle.records.specs.declared.Span.{Span}
use Rattle.show.specs.Shown.{shown_at}
use Rattle.host.specs.declared.Part.{Part}

abbrev pub answer_of : Verdict → ℕ
answer_of v = v.rec * 100 + v.number

abbrev pub part_of : Span → Part
part_of s = record { start = s.start; length = s.end - s.start }

-- what is promised of these two calls, for every input
abbrev pub CodedAs : List ℕ → List ℕ → List ℕ → ℕ → Type 0
CodedAs file transfer cheque answer = answer ≡ answer_of (judge_of 0 file transfer cheque [])

abbrev pub PlacedAs : List ℕ → ℕ → ℕ → Part → Type 0
PlacedAs file k f answer = answer ≡ part_of (shown_at file k f)
