-- Document 01, rule 70 and demand 3 (RULES 10.3): what it is that a sound file yields a pair of a forwarded file and
-- notes. Its elements are bytes.
use Rattle.std.specs.Prelude.{ℕ, ◌≡◌, List}
use Rattle.judge.specs.Verdict.{verdict_of}
use Rattle.forwarding.specs.Forwarded.{forwarded, notes_of}
use Rattle.forwarding.specs.RoundTrip.{Bytes}

pub record SoundOrigin (page : ℕ) (transfer cheque file sent notes : List ℕ) : Type 0 where
  pub bytes : Bytes file
  pub sound : (verdict_of page file transfer cheque).number ≡ 0
  pub forwards : forwarded page file ≡ sent
  pub notes_are : notes_of page file ≡ notes
