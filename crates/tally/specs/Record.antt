-- A record by itself: its first broken rule, by its bytes, with record 1's bytes from T3 to T4b handed in as the key.
use Rattle.std.proofs.Common.{unwrap_or, ℕ, ◌+◌, ◌≤◌, ◌≡◌, cond, List, eqb, length, ap, ◌∙◌, arith}
use Rattle.std.proofs.lemmas.Bool.Decides.{nat_tests}
use Rattle.laws.specs.Scan.{or_else, run_turn, run_end}
use Rattle.records.specs.Places.{record_at}
use Rattle.structure.specs.Slots.{width_at}
use Rattle.judge.specs.First.{faulty, told_at, none}
use Rattle.judge.specs.Found.{broken}
use Rattle.judge.specs.Content.{rule_from, rule_end}
use Rattle.judge.specs.Run.{length_at, slot_fault, slot_in, run_fault, first_in, by_itself}
use Rattle.judge.specs.declared.Breach.{Breach}

-- the first broken rule of record k, or none
unfoldable pub breach_in : ℕ → List ℕ → List ℕ → List ℕ → ℕ → ℕ → List ℕ → ℕ → Breach
breach_in page transfer cheque key payments euros slot k =
    or_else (faulty (slot_fault page transfer cheque key payments euros slot) (rule_from payments) (rule_end payments))
    (told_at (slot_fault page transfer cheque key payments euros slot) (rule_from payments) (rule_end payments)) k none

-- the first fault: that so far, or else the next
abbrev pub or_next : Breach → Breach → Breach
or_next b next = cond (eqb b.number 0) next b

pub q_width : (k : ℕ) → k ≡ 0 → width_at k ≡ 256
q_width k z = grind (arith, nat_tests)

-- Q and each T record fill their slot
pub long_is : (k : ℕ) → width_at k ≡ length_at k k
long_is k = grind (arith, nat_tests)

-- and Z has room in its own
pub width_low : (k : ℕ) → 256 ≤ width_at k
width_low k = grind (arith, nat_tests)

-- the first broken rule of a run of one record
pub of_run : (page : ℕ) (transfer cheque key : List ℕ) (payments euros : ℕ) (slot : List ℕ) (k skip : ℕ) → skip ≡ record_at k
    → length slot ≤ width_at k
    → first_in (run_fault page transfer cheque key payments euros slot skip) (rule_from payments) (rule_end payments) k (k + 1)
    ≡ breach_in page transfer cheque key payments euros slot k
unfolding breach_in
of_run page transfer cheque key payments euros slot k skip e short =
    let G : (ℕ → ℕ → ℕ) → ℕ → Breach → Breach = λ F. or_else (faulty F (rule_from payments) (rule_end payments)) (told_at F (rule_from payments) (rule_end payments)) in
    let R : ℕ → ℕ → ℕ = run_fault page transfer cheque key payments euros slot skip in
    run_turn (G R) none k (k + 1) (omega arith) ∙ ap (G R k) (run_end _ none (k + 1) (k + 1) (omega arith))
    ∙ ap (λ (s : List ℕ). G (slot_fault page transfer cheque key payments euros s) k none) (ap (λ (a : ℕ). slot_in slot a k) e ∙ by_itself slot k short)

-- it tells all that there is to tell: where none is broken, zeros
pub kept_in : (page : ℕ) (transfer cheque key : List ℕ) (payments euros : ℕ) (slot : List ℕ) (k : ℕ)
    → unwrap_or (broken (breach_in page transfer cheque key payments euros slot k)) none ≡ breach_in page transfer cheque key payments euros slot k
unfolding breach_in
kept_in page transfer cheque key payments euros slot k = grind (arith, nat_tests)
