-- What the code answers: how many records are filed, or why none are, as the answer of Filed has it.
use Rattle.std.specs.Prelude.{ℕ, Result, Ok, Err}
use Rattle.judge.specs.Refusal.{number_of, rec_of}
use Rattle.judge.specs.declared.Refusal.{Refusal}
use Rattle.m8.specs.Filed.{not_filed, filed}
use Rattle.m8.specs.declared.Filed.{Filed}

abbrev pub filed_in : Result ℕ Refusal → Filed
filed_in (Ok count) = filed count
filed_in (Err why) = not_filed (number_of why) (rec_of why)
