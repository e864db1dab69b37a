-- What the code answers: what goes on or why nothing does, as the answer of Sorted has it; and what its steps answer.
use Rattle.std.specs.Prelude.{ℕ, ◌+◌, cond, eqb, List, Result, Ok, Err}
use Rattle.records.specs.Places.{t_place}
use Rattle.records.specs.declared.TField.TheVariants.{T14a, T14b}
use Rattle.fields.specs.Class.{all_of}
use Rattle.fields.specs.declared.Class.TheVariants.{Digit}
use Rattle.payments.specs.Rules.{in_t}
use Rattle.structure.specs.Slots.{slot_at}
use Rattle.judge.specs.Content.{fault_of, rule_from, rule_end}
use Rattle.judge.specs.Run.{first_in}
use Rattle.judge.specs.Sums.{euro_sum}
use Rattle.judge.specs.Refusal.{number_of, rec_of}
use Rattle.judge.specs.declared.Breach.{Breach}
use Rattle.judge.specs.declared.Refusal.{Refusal}
use Rattle.sorting.specs.Sorted.{sorted_as, unsorted, no_amount}
use Rattle.sorting.specs.declared.Going.{Going}
use Rattle.sorting.specs.declared.Sorted.{Sorted}

abbrev pub sorted_of : Result Going Refusal → Sorted
sorted_of (Ok g) = sorted_as 0 0 g.notes g.payments g.euros
sorted_of (Err r) = unsorted (number_of r) (rec_of r)

-- the place of the first part of an amount with a non-digit, or 0
abbrev pub digits_place : List ℕ → ℕ
digits_place t = cond (all_of Digit (in_t T14a t)) (cond (all_of Digit (in_t T14b t)) 0 (t_place T14b).start) (t_place T14a).start

-- rule 33, at the first record that has one
abbrev pub amounts_of : List ℕ → ℕ → Result Unit Breach
amounts_of file n =
    cond (eqb (no_amount file n) 0) (Ok tt)
    (Err (record { number = 33; rec = no_amount file n; at = digits_place (slot_at file (no_amount file n)) }))

-- the first broken rule of Z
abbrev pub z_breach : ℕ → List ℕ → ℕ → List ℕ → List ℕ → Breach
z_breach page file n transfer cheque =
    first_in (fault_of page file n (euro_sum file n) transfer cheque) (rule_from n) (rule_end n) (n + 1) (n + 2)
