use Rattle.std.specs.Prelude.{◌≡◌}
use Rattle.judge.specs.Sums.{euro_sum, cent_sum}
use Rattle.judge.proofs.sum.Given as goal

-- The sums so far are those of the first k payments.
abbrev pub invariant-loop-k : goal.invariant-loop-k
invariant-loop-k l = (l.euros ≡ euro_sum l.file l.k) × (l.cents ≡ cent_sum l.file l.k)
