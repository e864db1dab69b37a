-- Document 02, A5: "New default for prepare: when only T rules (20 to 35) are broken, those records come back and the rest
-- goes on." (RULES 9.9)
use Rattle.std.specs.Prelude.{ℕ, ◌≡◌, cond, List, eqb, ltb, length}
use Rattle.forwarding.specs.Forwarded.{forwarded, notes_of}
use Rattle.forwarding.specs.Put.{put}
use Rattle.sorting.specs.Kept.{named_in, kept_file}
use Rattle.sorting.specs.Sorted.{unsorted, sort_of}
use Rattle.sorting.specs.declared.Sorted.{Sorted}
use Rattle.prepare.specs.Prepared.{send_of}
use Rattle.prepare.specs.declared.Prepared.{Prepared}

-- "then 60 and 61, measured on the kept file; then 63, record 0, when the list is too short": sent is what document 01
-- answers of sending the kept file
abbrev pub or_refused : Sorted → Prepared → List ℕ → Sorted
or_refused sorted sent list =
    cond (eqb sent.number 0) (cond (ltb (length list) sorted.payments.returned) (unsorted 63 0) sorted) (unsorted sent.number sent.rec)

-- the refusals of sorting before that
abbrev pub default_by : Sorted → ℕ → List ℕ → List ℕ → List ℕ → List ℕ → Sorted
default_by sorted page kept out notes list =
    cond (eqb sorted.number 0) (or_refused sorted (send_of page kept out notes) list) sorted

unfoldable pub default_of : ℕ → List ℕ → List ℕ → List ℕ → List ℕ → List ℕ → List ℕ → Sorted
default_of page file transfer cheque out notes list =
    default_by (sort_of page file transfer cheque) page (kept_file page file transfer cheque) out notes list

-- what is written begins the lent room, and "places beyond stay"; a refused call leaves all as it was
abbrev pub left_by : Sorted → List ℕ → List ℕ → List ℕ
left_by answer written room = cond (eqb answer.number 0) (put 0 written room) room

-- what is promised of preparing the default way: the answer, the output, the note places and the list, for every input.
-- "demands 2 and 3 and note places are read from" the kept file
pub record DefaultAs (page : ℕ) (file transfer cheque out notes list : List ℕ) (answer : Sorted) (out' notes' list' : List ℕ) : Type 0 where
  pub answer_is : answer ≡ default_of page file transfer cheque out notes list
  pub out_is : out' ≡ left_by answer (forwarded page (kept_file page file transfer cheque)) out
  pub notes_are : notes' ≡ left_by answer (notes_of page (kept_file page file transfer cheque)) notes
  pub list_is : list' ≡ left_by answer (named_in page file transfer cheque) list
