-- What the code answers, as the promises have it: how many notes there are, or why a file is not sent; and what room is missing.
use Rattle.std.specs.Prelude.{ℕ, ◌≡◌, Result, Ok, Err}
use Rattle.judge.specs.Refusal.{number_of, rec_of}
use Rattle.judge.specs.declared.Refusal.{Refusal}
use Rattle.prepare.specs.Prepared.{not_prepared, done}
use Rattle.prepare.specs.declared.Prepared.{Prepared}

abbrev pub prepared_in : Result ℕ Refusal → Prepared
prepared_in (Ok notes) = done notes
prepared_in (Err why) = not_prepared (number_of why) (rec_of why)

-- the refusal of a room by its number, which is of no record
pub record Short (why : Refusal) (missing : ℕ) : Type 0 where
  pub number_is : number_of why ≡ missing
  pub no_record : rec_of why ≡ 0
  pub real : missing ≡ 0 → ⊥
