-- Document 01, "What each call answers": the judge (RULES 9.2). With the place of the field that breaks the rule, document
-- 02, A1 (RULES 7.1): "Rules 1 to 6, 50 and a sound file give 0." And on the code page that the caller names, A2.
use Rattle.std.specs.Prelude.{ℕ, ◌≡◌, cond, List, eqb}
use Rattle.charset.specs.Table.{is_page}
use Rattle.fields.specs.Lists.{is_taken}
use Rattle.structure.specs.Slots.{slot_at}
use Rattle.structure.specs.Walk.{structure_of}
use Rattle.structure.specs.Shape.{Shape, Fits, Refused}
use Rattle.judge.specs.Content.{content_of}
use Rattle.judge.specs.Sums.{euro_sum, cent_sum, file_number}
use Rattle.judge.specs.declared.Breach.{Breach}
use Rattle.judge.specs.declared.Verdict.{Verdict}

-- "If refused, these three are 0."
abbrev pub refused : ℕ → ℕ → ℕ → Verdict
refused number rec at = record { number = number; rec = rec; at = at; payments = 0; euros = 0; cents = 0 }

-- "if 0, record 0, the number of payments, the euro sum of T14a and the cent sum"
abbrev pub sound : ℕ → ℕ → ℕ → Verdict
sound payments euros cents = record { number = 0; rec = 0; at = 0; payments = payments; euros = euros; cents = cents }

-- the refusal of the first broken rule, or else the answer of a sound file
abbrev pub unless : Breach → Verdict → Verdict
unless fault verdict = cond (eqb fault.number 0) verdict (refused fault.number fault.rec fault.at)

-- the number and the values of each case of the walk
abbrev pub verdict_by : Shape → ℕ → List ℕ → List ℕ → List ℕ → Verdict
verdict_by (Refused number rec) page file transfer cheque = refused number rec 0
verdict_by (Fits n) page file transfer cheque =
    unless (content_of page file n (euro_sum file n) transfer cheque) (sound n (euro_sum file n) (cent_sum file n))

-- structure, then content: what the desk finds of a file, on a code page and with both country lists
unfoldable pub verdict_of : ℕ → List ℕ → List ℕ → List ℕ → Verdict
verdict_of page file transfer cheque = verdict_by (structure_of file) page file transfer cheque

-- "Rule 50 belongs to the judge alone and comes after all others"; "For 50, the record is 0." (RULES 7, 8)
abbrev pub or_taken : Verdict → List ℕ → List ℕ → Verdict
or_taken verdict file taken =
    cond (eqb verdict.number 0) (cond (is_taken taken (file_number (slot_at file 0))) (refused 50 0 0) verdict) verdict

-- Document 02, A2: "any other page number is 7, record and offset 0, before every other number" (RULES 8)
unfoldable pub judge_of : ℕ → List ℕ → List ℕ → List ℕ → List ℕ → Verdict
judge_of page file transfer cheque taken = cond (is_page page) (or_taken (verdict_of page file transfer cheque) file taken) (refused 7 0 0)

-- what is promised of judging: the answer, for every input
abbrev pub JudgedAs : ℕ → List ℕ → List ℕ → List ℕ → List ℕ → Verdict → Type 0
JudgedAs page file transfer cheque taken answer = answer ≡ judge_of page file transfer cheque taken
