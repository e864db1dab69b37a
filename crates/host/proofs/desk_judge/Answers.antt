use Rattle.std.proofs.Common.{ℕ, ◌≡◌, List, arith}
use Rattle.judge.specs.declared.Verdict.{Verdict}
use Rattle.judge.specs.Verdict.{judge_of}
use Rattle.judge.specs.Small.{Small, judge_small}
use Rattle.host.proofs.desk_judge.Goals as goal

small : (page : ℕ) (file transfer cheque taken : List ℕ) {v : Verdict} → v ≡ judge_of page file transfer cheque taken → Small v
small page file transfer cheque taken e = rw e (judge_small page file transfer cheque taken)

pub overflow_mul-result : goal.overflow_mul-result
overflow_mul-result c = omega (arith, small _ _ _ _ _ c.judge-found.ensures)

pub overflow_add-result : goal.overflow_add-result
overflow_add-result c = omega (arith, small _ _ _ _ _ c.judge-found.ensures)
