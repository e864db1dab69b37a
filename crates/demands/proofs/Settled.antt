-- Every promise leaves one outcome.
use Prim.Native.Nat.{◌+◌}
use mathlib.Core.Path.{◌≡◌, refl, sym, ap, ◌∙◌}
use lib.ListN.{length}
use Rattle.records.specs.Places.{part}
use Rattle.prepare.specs.Prepared.{prepare_of, output_after, notes_after}
use Rattle.prepare.specs.declared.Prepared.{Prepared}
use Rattle.restore.specs.Restored.{restore_of, restored_into}
use Rattle.restore.specs.declared.Restored.{Restored}
use Rattle.show.specs.Shown.{shown_at}
use Rattle.demands.specs.Settled.{Settled, JudgeSettled, PrepareSettled, RestoreSettled, ShowSettled, TellSettled, DeskJudgeSettled, DeskShowSettled, NewSettled, FeedSettled, EndSettled, SaySettled}

-- a promise that says what the answer equals
equal : {A : Type 0} (b : A) → Settled (λ (a : A). a ≡ b)
equal b = record { some = (b, refl); coincide = λ x y p q. p ∙ sym q }

pub judge_settled : JudgeSettled
judge_settled page file transfer cheque taken = equal _

pub prepare_settled : PrepareSettled
prepare_settled page file transfer cheque out notes =
    record {
      some =
          let answer = prepare_of page file transfer cheque out notes in
          ((answer, output_after answer page file out, notes_after answer page file notes), record { answer_is = refl; out_is = refl; notes_are = refl });
      coincide =
          λ x y p q.
          let same : x.0 ≡ y.0 = p.answer_is ∙ sym q.answer_is in
          let outs = p.out_is ∙ ap (λ (r : Prepared). output_after r page file out) same ∙ sym q.out_is in
          let places = p.notes_are ∙ ap (λ (r : Prepared). notes_after r page file notes) same ∙ sym q.notes_are in
          λ i. (same i, outs i, places i);
    }

pub restore_settled : RestoreSettled
restore_settled page sent notes transfer cheque out =
    record {
      some =
          let answer = restore_of page sent notes transfer cheque (length out) in
          ((answer, restored_into answer sent notes out), record { answer_is = refl; out_is = refl });
      coincide =
          λ x y p q.
          let same : x.0 ≡ y.0 = p.answer_is ∙ sym q.answer_is in
          let outs = p.out_is ∙ ap (λ (r : Restored). restored_into r sent notes out) same ∙ sym q.out_is in
          λ i. (same i, outs i);
    }

pub show_settled : ShowSettled
show_settled from file k f =
    record {
      some =
          let s = shown_at file k f in
          (((from.0, s.start + from.1), part s file), record { there = refl; holds = refl });
      coincide = λ x y p q. λ i. ((p.there ∙ sym q.there) i, (p.holds ∙ sym q.holds) i);
    }

pub tell_settled : TellSettled
tell_settled input = equal _

pub desk_judge_settled : DeskJudgeSettled
desk_judge_settled file transfer cheque = equal _

pub desk_show_settled : DeskShowSettled
desk_show_settled file k f = equal _

pub new_settled : NewSettled
new_settled page = equal _

pub feed_settled : FeedSettled
feed_settled r cut transfer cheque = equal _

pub end_settled : EndSettled
end_settled r taken = equal _

pub say_settled : SaySettled
say_settled r = equal _
