-- What the program tells of its input, and what the judge's answer to payroll hosts tells.
use Prim.Native.Nat.{ℕ, ◌+◌, ◌*◌, ◌≤◌}
use mathlib.Core.Path.{◌≡◌, refl, sym, ap, subst, ◌∙◌}
use mathlib.Core.Bool.{Bool, true, false, cond}
use mathlib.Core.List.{List, []}
use mathlib.Core.Logic.{◌⊎◌, inl, inr}
use native.Mathlib.Omega.{arith}
use borrow.Author.Tests.{eqb-true, eqb-false}
use lib.Dec.{eqb}
use lib.ListN.{length}
use Rattle.fields.specs.Lists.{is_taken}
use Rattle.judge.specs.Small.{judge_small}
use Rattle.judge.specs.Verdict.{verdict_of, judge_of}
use Rattle.judge.specs.declared.Verdict.{Verdict}
use Rattle.forwarding.specs.Forwarded.{notes_of}
use Rattle.report.specs.Annexes.{annex_i, annex_ii}
use Rattle.reader.specs.State.{answered, end_of}
use Rattle.report.specs.Report.{lines, report_of, said_of}
use Rattle.host.specs.Answers.{answer_of}
use Rattle.demands.specs.Demand1.{FileRule, TellNumbers}
use Rattle.demands.specs.Demand2.{Zeros}
use Rattle.demands.specs.Reading.{Reading}
use Rattle.demands.specs.Program.{Tells, SaysOfInput, TellAnswers, NeverShows, DeskJudgeTells}
use Rattle.demands.proofs.Demand1.{told}
use Rattle.demands.proofs.Reading.{read_is}
use Rattle.demands.proofs.Prepare.{rule_below}
use Rattle.demands.proofs.Judge.{refused_zeros}
use Rattle.demands.proofs.Forwarding.{listed, listed_one}

module _ (input : List ℕ) where
  -- with no taken numbers the judge answers its verdict
  verdict_is : judge_of 1 input annex_ii annex_i [] ≡ verdict_of 1 input annex_ii annex_i
  unfolding judge_of is_taken
  verdict_is = go (eqb (verdict_of 1 input annex_ii annex_i).number 0)
    where
      go : (b : Bool) → cond b (verdict_of 1 input annex_ii annex_i) (verdict_of 1 input annex_ii annex_i) ≡ verdict_of 1 input annex_ii annex_i
      go true = refl
      go false = refl

  tells : Tells input (report_of input)
  unfolding report_of
  tells = go (eqb (judge_of 1 input annex_ii annex_i []).number 0) refl
    where
      zeros : ((judge_of 1 input annex_ii annex_i []).number ≡ 0 → ⊥) → Zeros (judge_of 1 input annex_ii annex_i [])
      zeros n = subst Zeros (sym verdict_is) (refused_zeros 1 input annex_ii annex_i (λ z. n (ap (λ (w : Verdict). w.number) verdict_is ∙ z)))

      go : (zero : Bool) → eqb (judge_of 1 input annex_ii annex_i []).number 0 ≡ zero
          → Tells input (lines (answered (judge_of 1 input annex_ii annex_i []) (cond zero (length (notes_of 1 input)) 0)))
      go true q =
          let z = eqb-true (judge_of 1 input annex_ii annex_i []).number 0 q in
          record {
            judged = refl;
            counted = λ b changes list e. ap length (listed_one 1 input (notes_of 1 input) changes (listed 1 input b) list);
            refused = λ n. absurd (n z);
          }
      go false q =
          let n = eqb-false (judge_of 1 input annex_ii annex_i []).number 0 q in
          let w = zeros n in
          record {
            judged = refl;
            counted = λ b changes list z. absurd (n z);
            refused = λ m. (w.0, w.1, w.2, refl);
          }

pub tell_numbers : TellNumbers
unfolding report_of
tell_numbers input answer promise = rw (promise, verdict_is input) (told 1 input annex_ii annex_i)

pub tell_answers : TellAnswers
tell_answers input answer promise = rw promise (tells input)

pub never_shows : NeverShows
never_shows input answer promise = (no 50 (omega arith), no 60 (omega arith), no 61 (omega arith))
  where
    no : (m : ℕ) → 50 ≤ m → answer.verdict ≡ m → ⊥
    no m l e = go (tell_numbers input answer promise)
      where
        go : (answer.verdict ≡ 0) ⊎ FileRule answer.verdict → ⊥
        go (inl z) = omega (arith, z, e, l)
        go (inr r) = omega (arith, rule_below answer.verdict r, e, l)

-- the answer after all pieces, by the judge's over the whole input
pub says_of_input : SaysOfInput
unfolding said_of report_of
says_of_input pieces r answer read said =
    let reading : Reading 1 pieces [] (end_of r []) = record { first = read.first; last = r; new = read.started; fed = read.read; ended = refl } in
    said ∙ ap lines (read_is 1 pieces annex_ii annex_i [] (end_of r []) read.lists reading)

pub desk_judge_tells : DeskJudgeTells
desk_judge_tells file transfer cheque answer verdict coded given =
    let small = judge_small 0 file transfer cheque [] in
    let is : answer ≡ verdict.rec * 100 + verdict.number = coded ∙ ap answer_of (sym given) in
    let below : verdict.number ≤ 50 = omega (arith, small.0, ap (λ (v : Verdict). v.number) given) in
    (omega (arith, is, below), omega (arith, is, below))
