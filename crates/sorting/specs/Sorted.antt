-- Document 02, A5 (RULES 9.9): what sorting a file answers, up to 43. "Refusals: structure, Q rules, the 33 for a non-digit
-- by rising record, then 40 to 42; then 43, record 0, when every T record would be returned". By A2, 7 before all others.
use Rattle.std.specs.Prelude.{ℕ, ◌+◌, ◌≡◌, Bool, cond, not, ◌&&◌, List, eqb, length}
use Rattle.laws.specs.Scan.{first}
use Rattle.laws.specs.Sums.{sum_of}
use Rattle.charset.specs.Table.{is_page}
use Rattle.records.specs.declared.TField.TheVariants.{T14a, T14b}
use Rattle.fields.specs.Class.{all_of}
use Rattle.fields.specs.declared.Class.TheVariants.{Digit}
use Rattle.payments.specs.Rules.{in_t}
use Rattle.structure.specs.Slots.{slot_at}
use Rattle.structure.specs.Walk.{structure_of}
use Rattle.structure.specs.Shape.{Shape, Fits, Refused}
use Rattle.judge.specs.First.{first_rule}
use Rattle.judge.specs.Content.{fault_of, rule_from, rule_end}
use Rattle.judge.specs.Sums.{euros, euro_sum}
use Rattle.forwarding.specs.Forwarded.{notes_of}
use Rattle.sorting.specs.Kept.{kept_in, returned_in, kept_file}
use Rattle.sorting.specs.declared.Shares.{Shares}
use Rattle.sorting.specs.declared.Sorted.{Sorted}

abbrev pub shares : ℕ → ℕ → Shares
shares kept returned = record { kept = kept; returned = returned }

abbrev pub sorted_as : ℕ → ℕ → ℕ → Shares → Shares → Sorted
sorted_as number rec notes payments euros =
    record { number = number; rec = rec; notes = notes; payments = payments; euros = euros }

-- "The answer adds counts and euros, kept and returned (0 when refused)"
abbrev pub unsorted : ℕ → ℕ → Sorted
unsorted number rec = sorted_as number rec 0 (shares 0 0) (shares 0 0)

-- those of a file that goes on
abbrev pub payments : ℕ → List ℕ → List ℕ → List ℕ → Shares
payments page file transfer cheque =
    shares (length (kept_in page file transfer cheque)) (length (returned_in page file transfer cheque))

abbrev pub euro_shares : ℕ → List ℕ → List ℕ → List ℕ → Shares
euro_shares page file transfer cheque =
    shares (sum_of euros (kept_in page file transfer cheque)) (sum_of euros (returned_in page file transfer cheque))

-- and how many notes the kept file has
abbrev pub goes_on : ℕ → List ℕ → List ℕ → List ℕ → Sorted
goes_on page file transfer cheque =
    sorted_as 0 0 (length (notes_of page (kept_file page file transfer cheque))) (payments page file transfer cheque) (euro_shares page file transfer cheque)

-- "A non-digit in T14 still refuses the file, with 33 and that record, whatever else it breaks."
abbrev pub in_digits : List ℕ → Bool
in_digits t = all_of Digit (in_t T14a t) && all_of Digit (in_t T14b t)

-- the first record of 1 to n that has one, or 0
unfoldable pub no_amount : List ℕ → ℕ → ℕ
no_amount file n = first (λ (k : ℕ). not (in_digits (slot_at file k))) (λ (k : ℕ). k) 0 1 (n + 1)

-- the first broken rule of record k of a file with n T records, or 0
abbrev pub rule_at : ℕ → List ℕ → ℕ → List ℕ → List ℕ → ℕ → ℕ
rule_at page file n transfer cheque k = first_rule (fault_of page file n (euro_sum file n) transfer cheque) (rule_from n) (rule_end n) k

-- the refusal of a rule that is broken, or else what follows
abbrev pub refusing : ℕ → ℕ → Sorted → Sorted
refusing rule rec rest = cond (eqb rule 0) rest (unsorted rule rec)

-- "the 33 for a non-digit by rising record, then 40 to 42; then 43, record 0, when every T record would be returned"
unfoldable pub behind_q : ℕ → List ℕ → ℕ → List ℕ → List ℕ → Sorted
behind_q page file n transfer cheque =
    cond (eqb (no_amount file n) 0)
    (refusing (rule_at page file n transfer cheque (n + 1)) (n + 1)
    (cond (eqb (length (kept_in page file transfer cheque)) 0) (unsorted 43 0) (goes_on page file transfer cheque)))
    (unsorted 33 (no_amount file n))

-- "structure, Q rules", and then these
abbrev pub sort_by : Shape → ℕ → List ℕ → List ℕ → List ℕ → Sorted
sort_by (Refused number rec) page file transfer cheque = unsorted number rec
sort_by (Fits n) page file transfer cheque =
    refusing (rule_at page file n transfer cheque 0) 0 (behind_q page file n transfer cheque)

unfoldable pub sort_of : ℕ → List ℕ → List ℕ → List ℕ → Sorted
sort_of page file transfer cheque =
    cond (is_page page) (sort_by (structure_of file) page file transfer cheque) (unsorted 7 0)

-- what is promised of sorting: the answer, for every input
abbrev pub SortedAs : ℕ → List ℕ → List ℕ → List ℕ → Sorted → Type 0
SortedAs page file transfer cheque answer = answer ≡ sort_of page file transfer cheque
