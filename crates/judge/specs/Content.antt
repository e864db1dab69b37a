-- Document 01: "then content, record by record, in rising rule number within a record" (RULES 7). Record 0 has rules 10
-- to 16, records 1 to n have 20 to 35, and Z, which is record n + 1, has 40 to 42.
use Rattle.std.specs.Prelude.{ℕ, ◌+◌, ◌<◌, Bool, true, false, cond, List, eqb, leb}
use Rattle.std.proofs.Common.{lit<}
use Rattle.structure.specs.Slots.{slot_at}
use Rattle.payments.specs.Rules.{key_of}
use Rattle.rules.specs.Faults.{q_fault, z_fault}
use Rattle.payments.specs.Faults.{t_fault}
use Rattle.judge.specs.First.{first_broken}
use Rattle.judge.specs.declared.Breach.{Breach}

-- what a rule says of record k of a file with n T records, whose T14a sum up to euros
unfoldable pub fault_of : ℕ → List ℕ → ℕ → ℕ → List ℕ → List ℕ → ℕ → ℕ → ℕ
fault_of page file n euros transfer cheque k rule =
    cond (eqb k 0) (q_fault page (slot_at file 0) rule)
    (cond (leb k n) (t_fault page transfer cheque (key_of (slot_at file 1)) (slot_at file k) rule) (z_fault n euros (slot_at file k) rule))

-- the rules of record k: from its first up to below its end
abbrev pub rule_from : ℕ → ℕ → ℕ
rule_from n k = cond (eqb k 0) 10 (cond (leb k n) 20 40)

abbrev pub rule_end : ℕ → ℕ → ℕ
rule_end n k = cond (eqb k 0) 17 (cond (leb k n) 36 43)

unfoldable pub content_of : ℕ → List ℕ → ℕ → ℕ → List ℕ → List ℕ → Breach
content_of page file n euros transfer cheque =
    first_broken (fault_of page file n euros transfer cheque) (rule_from n) (rule_end n) (n + 2)

-- a rule's number is never 0
pub rule_real : (n k : ℕ) → 0 < rule_from n k
rule_real n k = go (eqb k 0) (leb k n)
  where
    go : (a b : Bool) → 0 < cond a 10 (cond b 20 40)
    go true b = lit< tt
    go false true = lit< tt
    go false false = lit< tt
