-- Document 02, A6 (RULES 9.10): what filing M8 records answers and leaves. "Refusals: A5's numbers up to 43 first, then 62
-- when the code table is not 96 bytes, then 60 when the output is too short, both at record 0."
use Rattle.std.specs.Prelude.{ℕ, ◌*◌, ◌≡◌, cond, List, map, eqb, ltb, length}
use Rattle.structure.specs.Slots.{slot_at}
use Rattle.judge.specs.Records.{joined}
use Rattle.forwarding.specs.Put.{put}
use Rattle.sorting.specs.Kept.{rule_in, returned_in}
use Rattle.sorting.specs.Sorted.{sort_of}
use Rattle.sorting.specs.declared.Sorted.{Sorted}
use Rattle.m8.specs.Record.{m8_of, code_of}
use Rattle.m8.specs.declared.Filed.{Filed}

-- the record of one returned payment, with the code of the first rule that it breaks
abbrev pub record_in : ℕ → List ℕ → List ℕ → List ℕ → List ℕ → List ℕ → List ℕ
record_in page file transfer cheque codes t = m8_of page (slot_at file 0) (code_of codes (rule_in page file transfer cheque t)) t

-- "For each returned payment, in order": returned by A5
unfoldable pub records_of : ℕ → List ℕ → List ℕ → List ℕ → List ℕ → List ℕ
records_of page file transfer cheque codes =
    joined (map (record_in page file transfer cheque codes) (returned_in page file transfer cheque))

abbrev pub not_filed : ℕ → ℕ → Filed
not_filed number rec = record { number = number; rec = rec; count = 0 }

-- "The answer gives how many."
abbrev pub filed : ℕ → Filed
filed count = record { number = 0; rec = 0; count = count }

-- "then 62 when the code table is not 96 bytes, then 60 when the output is too short"
abbrev pub after_sorting : ℕ → List ℕ → List ℕ → Filed
after_sorting count codes out =
    cond (eqb (length codes) 96) (cond (ltb (length out) (124 * count)) (not_filed 60 0) (filed count)) (not_filed 62 0)

-- "A5's numbers up to 43 first"
abbrev pub filed_by : Sorted → List ℕ → List ℕ → Filed
filed_by sorted codes out =
    cond (eqb sorted.number 0) (after_sorting sorted.payments.returned codes out) (not_filed sorted.number sorted.rec)

unfoldable pub filed_of : ℕ → List ℕ → List ℕ → List ℕ → List ℕ → List ℕ → Filed
filed_of page file transfer cheque codes out = filed_by (sort_of page file transfer cheque) codes out

-- what is promised: the answer, and the output, for every input. "Bytes of the output after the last record keep their
-- value"; where the call is refused, all do
pub record FiledAs (page : ℕ) (file transfer cheque codes out : List ℕ) (answer : Filed) (out' : List ℕ) : Type 0 where
  pub answer_is : answer ≡ filed_of page file transfer cheque codes out
  pub out_is : out' ≡ cond (eqb answer.number 0) (put 0 (records_of page file transfer cheque codes) out) out
