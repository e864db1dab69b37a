use Rattle.std.proofs.Common.{◌≡◌, ℕ, ◌+◌, not}
use Rattle.laws.specs.Scan.{first}
use Rattle.structure.specs.Slots.{slot_at}
use Rattle.sorting.specs.Sorted.{in_digits, no_amount}
use Rattle.sorting.proofs.amounts.Given as goal

-- The amounts before record k are digits: what the search from there on tells is what the whole search tells.
abbrev pub invariant-loop-k : goal.invariant-loop-k
invariant-loop-k l = first (λ (j : ℕ). not (in_digits (slot_at l.file j))) (λ (j : ℕ). j) 0 l.k (l.n + 1) ≡ no_amount l.file l.n
