use Rattle.std.proofs.Common.{◌≡◌, ◌≤◌, drop}
use Rattle.laws.specs.Steps.{fold}
use Rattle.forwarding.specs.Changes.{counted, changes}
use Rattle.count.proofs.field.Given as goal

-- The count so far, and then the rest, is the count of all. It is no more than the bytes passed, so it fits a byte.
abbrev pub invariant-loop-b : goal.invariant-loop-b
invariant-loop-b l = record {
  few : l.n ≤ l.b-index;
  rest : fold counted l.n (drop l.b-index l.s) ≡ changes l.s;
}
