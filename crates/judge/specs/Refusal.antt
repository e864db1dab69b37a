-- A refusal by its number (RULES 7), the record that it names, and the place there of the field that breaks the rule; and
-- the verdict that an examination comes to.
use Rattle.std.specs.Prelude.{ℕ, Result, Ok, Err}
use Rattle.structure.specs.Found.{fault_number}
use Rattle.judge.specs.Verdict.{refused, sound}
use Rattle.judge.specs.declared.Verdict.{Verdict}
use Rattle.judge.specs.declared.Totals.{Totals}
use Rattle.judge.specs.declared.Refusal.{Refusal}
use Rattle.judge.specs.declared.Refusal.TheVariants.{Structure, NoSuchPage, Broken, NothingKept, Taken, OutputRoom, NoteRoom, Codes, ListRoom, NoSuchPair}

abbrev pub number_of : Refusal → ℕ
number_of (Structure m) = fault_number m.fault
number_of NoSuchPage = 7
number_of (Broken b) = b.number
number_of NothingKept = 43
number_of Taken = 50
number_of OutputRoom = 60
number_of NoteRoom = 61
number_of Codes = 62
number_of ListRoom = 63
number_of NoSuchPair = 70

abbrev pub rec_of : Refusal → ℕ
rec_of (Structure m) = m.rec
rec_of (Broken b) = b.rec
rec_of _ = 0

abbrev pub at_of : Refusal → ℕ
at_of (Broken b) = b.at
at_of _ = 0

abbrev pub verdict_in : Result Totals Refusal → Verdict
verdict_in (Ok t) = sound t.payments t.euros t.cents
verdict_in (Err r) = refused (number_of r) (rec_of r) (at_of r)
