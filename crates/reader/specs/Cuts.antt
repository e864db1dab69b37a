-- Document 02, A3 (RULES 9.8): what a reading answers, by the cuts alone. "The country lists are lent with each cut, a record
-- being judged by those of the cut that completes it; the taken list at the end. The answer is given only at the end and,
-- where all cuts came with the same lists, equals the judge's over the joined bytes, with the number of changes (0 if
-- refused). Structure still outranks content, and rule 1 outranks all but 7".
use Rattle.std.specs.Prelude.{ℕ, ◌+◌, ◌-◌, ◌≡◌, cond, List, [], ◌∷◌, ◌++◌, eqb, ltb, length}
use Rattle.charset.specs.Table.{is_page}
use Rattle.records.specs.Places.{record_at}
use Rattle.structure.specs.Walk.{structure_of}
use Rattle.structure.specs.Shape.{Shape, Fits, Refused}
use Rattle.judge.specs.First.{first_broken}
use Rattle.judge.specs.Content.{fault_of, rule_from, rule_end}
use Rattle.judge.specs.Sums.{euro_sum, cent_sum}
use Rattle.judge.specs.Verdict.{refused, sound, unless, or_taken}
use Rattle.judge.specs.declared.Breach.{Breach}
use Rattle.judge.specs.declared.Verdict.{Verdict}
use Rattle.forwarding.specs.Forwarded.{notes_of}
use Rattle.reader.specs.declared.Answer.{Answer}

-- a cut, and the two lists that are lent with it
pub record Cut : Type 0 where
  pub bytes : List ℕ
  pub transfer : List ℕ
  pub cheque : List ℕ

-- "the joined bytes"
abbrev pub joined : List Cut → List ℕ
joined [] = []
joined (cut ∷ cuts) = cut.bytes ++ joined cuts

-- the cut that holds the byte at a place of the joined bytes; an empty one past their end
abbrev pub holding : List Cut → ℕ → Cut
holding [] place = record { bytes = []; transfer = []; cheque = [] }
holding (cut ∷ cuts) place = cond (ltb place (length cut.bytes)) cut (holding cuts (place - length cut.bytes))

-- "the cut that completes it": the one that holds the last byte of Q or of T record k, which stands before record k + 1. Z is
-- shorter than its slot, so of Z this is past the end; no rule of Z reads a list
abbrev pub completing : List Cut → ℕ → Cut
completing cuts k = holding cuts (record_at (k + 1) - 1)

-- what a rule says of record k
abbrev pub read_fault : ℕ → List Cut → ℕ → ℕ → ℕ → ℕ → ℕ
read_fault page cuts n euros k rule =
    fault_of page (joined cuts) n euros (completing cuts k).transfer (completing cuts k).cheque k rule

unfoldable pub read_content : ℕ → List Cut → ℕ → ℕ → Breach
read_content page cuts n euros = first_broken (read_fault page cuts n euros) (rule_from n) (rule_end n) (n + 2)

-- structure by the joined bytes, then content
abbrev pub read_by : Shape → ℕ → List Cut → Verdict
read_by (Refused number rec) page cuts = refused number rec 0
read_by (Fits n) page cuts =
    unless (read_content page cuts n (euro_sum (joined cuts) n)) (sound n (euro_sum (joined cuts) n) (cent_sum (joined cuts) n))

unfoldable pub read_verdict : ℕ → List Cut → Verdict
read_verdict page cuts = read_by (structure_of (joined cuts)) page cuts

-- 7 before everything, 50 after everything
unfoldable pub read_judged : ℕ → List Cut → List ℕ → Verdict
read_judged page cuts taken = cond (is_page page) (or_taken (read_verdict page cuts) (joined cuts) taken) (refused 7 0 0)

unfoldable pub reading_of : ℕ → List Cut → List ℕ → Answer
reading_of page cuts taken =
    let v = read_judged page cuts taken in
    record { verdict = v; changes = cond (eqb v.number 0) (length (notes_of page (joined cuts))) 0 }

-- "where all cuts came with the same lists"
abbrev pub LentWith : List ℕ → List ℕ → List Cut → Type 0
LentWith transfer cheque [] = Unit {0}
LentWith transfer cheque (cut ∷ cuts) = (cut.transfer ≡ transfer) × (cut.cheque ≡ cheque) × LentWith transfer cheque cuts
