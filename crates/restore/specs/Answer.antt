-- What the code answers, as the promise has it: that it is restored, or why not.
use Rattle.std.specs.Prelude.{Result, Ok, Err}
use Rattle.judge.specs.Refusal.{number_of, rec_of}
use Rattle.judge.specs.declared.Refusal.{Refusal}
use Rattle.restore.specs.Restored.{answer}
use Rattle.restore.specs.declared.Restored.{Restored}

abbrev pub restored_in : Result Unit Refusal → Restored
restored_in (Ok _) = answer 0
restored_in (Err why) = record { number = number_of why; rec = rec_of why }
