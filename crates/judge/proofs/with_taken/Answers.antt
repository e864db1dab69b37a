use Rattle.std.proofs.Common.{sym, ap, arith}
use Rattle.structure.specs.Slots.{q_long}
use Rattle.judge.specs.Told.{sound_fits}
use Rattle.judge.specs.declared.Verdict.{Verdict}
use Rattle.judge.proofs.with_taken.Goals as goal

-- A file that is not refused fits, so its first slot is a whole Q.
pub whole-requires : goal.whole-requires
whole-requires c =
    let f = sound_fits _ _ _ _ (sym (ap (λ (v : Verdict). v.number) c.in_ok-totals.ensures.answer)) in
    (omega arith, (omega arith, omega arith, q_long _ f.0 f.2.long))
