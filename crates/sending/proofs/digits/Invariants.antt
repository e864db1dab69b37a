use Rattle.std.proofs.Common.{◌≤◌, ◌≡◌, ◌++◌, length, drop}
use Rattle.sorting.specs.Kept.{digits}
use Rattle.sending.proofs.digits.Given as goal

-- The digits from place i on are written, and those before it are the digits of the rest.
abbrev pub invariant-loop-i : goal.invariant-loop-i
invariant-loop-i l =
    (length l.out ≡ length l.initial.out) × (l.i ≤ length l.out) × (digits l.i l.rest ++ drop l.i l.out ≡ digits (length l.initial.out) l.n)
