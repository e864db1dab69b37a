-- Document 02, A5 (RULES 9.9): "when only T rules (20 to 35) are broken, those records come back and the rest goes on."
-- A file's T records by a function that tells of each its first broken rule, or 0: those that are kept, those that are
-- returned, and the list that names these.
use Rattle.std.specs.Prelude.{ℕ, zero, suc, ◌+◌, ◌*◌, ◌/◌, ◌%◌, cond, not, List, [], ◌∷◌, ◌++◌, eqb, length}
use Prim.Native.Char.{code}
use Rattle.laws.specs.Scan.{first}
use Rattle.laws.specs.Sums.{sum_of}
use Rattle.records.specs.Places.{z_place}
use Rattle.records.specs.declared.ZField.TheVariants.{Z3, Z4}
use Rattle.payments.specs.Rules.{key_of}
use Rattle.payments.specs.Faults.{t_fault}
use Rattle.structure.specs.Slots.{slot_at}
use Rattle.structure.specs.Walk.{structure_of}
use Rattle.structure.specs.Shape.{Shape, Fits, Refused}
use Rattle.judge.specs.Sums.{euros}
use Rattle.judge.specs.Records.{file_of}
use Rattle.judge.specs.Apart.{slots_from}
use Rattle.forwarding.specs.Put.{put}

-- the first of the rules 20 to 35 that a T record breaks, or 0
unfoldable pub first_of : ℕ → List ℕ → List ℕ → List ℕ → List ℕ → ℕ
first_of page transfer cheque key t = first (λ (rule : ℕ). not (eqb (t_fault page transfer cheque key t rule) 0)) (λ (rule : ℕ). rule) 0 20 36

-- "the kept T records in their order"
abbrev pub kept : (List ℕ → ℕ) → List (List ℕ) → List (List ℕ)
kept rule [] = []
kept rule (t ∷ ts) = cond (eqb (rule t) 0) (t ∷ kept rule ts) (kept rule ts)

-- "those records come back"
abbrev pub returned : (List ℕ → ℕ) → List (List ℕ) → List (List ℕ)
returned rule [] = []
returned rule (t ∷ ts) = cond (eqb (rule t) 0) (returned rule ts) (t ∷ returned rule ts)

-- "record × 100 + first broken rule, rising": of T records of which the first is record k
abbrev pub named : (List ℕ → ℕ) → ℕ → List (List ℕ) → List ℕ
named rule k [] = []
named rule k (t ∷ ts) = cond (eqb (rule t) 0) (named rule (suc k) ts) ((k * 100 + rule t) ∷ named rule (suc k) ts)

-- a number in so many digits
abbrev pub digits : ℕ → ℕ → List ℕ
digits zero n = []
digits (suc width) n = digits width (n / 10) ++ ((code "0" + n % 10) ∷ [])

-- "a Z with fresh Z3 and Z4"
unfoldable pub fresh_z : List ℕ → ℕ → ℕ → List ℕ
fresh_z z payments euros = put (z_place Z4).start (digits 15 payments) (put (z_place Z3).start (digits 15 euros) z)

-- the T records of a file that fits; none of another
abbrev pub records_by : Shape → List ℕ → List (List ℕ)
records_by (Fits n) file = slots_from file 1 n
records_by (Refused number rec) file = []

unfoldable pub t_records : List ℕ → List (List ℕ)
t_records file = records_by (structure_of file) file

-- "Rule 21 compares with record 1 even if that one is returned."
abbrev pub rule_in : ℕ → List ℕ → List ℕ → List ℕ → List ℕ → ℕ
rule_in page file transfer cheque t = first_of page transfer cheque (key_of (slot_at file 1)) t

abbrev pub kept_in : ℕ → List ℕ → List ℕ → List ℕ → List (List ℕ)
kept_in page file transfer cheque = kept (rule_in page file transfer cheque) (t_records file)

abbrev pub returned_in : ℕ → List ℕ → List ℕ → List ℕ → List (List ℕ)
returned_in page file transfer cheque = returned (rule_in page file transfer cheque) (t_records file)

abbrev pub named_in : ℕ → List ℕ → List ℕ → List ℕ → List ℕ
named_in page file transfer cheque = named (rule_in page file transfer cheque) 1 (t_records file)

-- "The kept file is Q, the kept T records in their order and a Z with fresh Z3 and Z4"
abbrev pub kept_by : List ℕ → List (List ℕ) → List ℕ → List ℕ
kept_by q ts z = file_of q ts (fresh_z z (length ts) (sum_of euros ts))

unfoldable pub kept_file : ℕ → List ℕ → List ℕ → List ℕ → List ℕ
kept_file page file transfer cheque =
    kept_by (slot_at file 0) (kept_in page file transfer cheque) (slot_at file (length (t_records file) + 1))
