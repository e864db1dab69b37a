-- What prepare answers, by soundness, room and note places.
use Prim.Native.Nat.{ℕ, ◌<◌}
use mathlib.Core.Path.{◌≡◌, refl, sym, ap, ◌∙◌}
use mathlib.Core.Bool.{Bool, true, false, cond}
use mathlib.Core.List.{List}
use mathlib.Core.Logic.{◌⊎◌, inl, inr}
use native.Mathlib.Omega.{arith}
use borrow.Author.Tests.{eqb-true, eqb-false, ltb-true, ltb-false}
use lib.Dec.{eqb, ltb}
use lib.ListN.{length}
use Rattle.laws.specs.Choice.{off_eq}
use Rattle.charset.specs.Table.{is_page}
use Rattle.judge.specs.Verdict.{refused, verdict_of, or_taken, judge_of}
use Rattle.judge.specs.declared.Verdict.{Verdict}
use Rattle.forwarding.specs.Forwarded.{notes_of}
use Rattle.prepare.specs.Prepared.{not_prepared, done, send_of, prepare_by, prepare_of}
use Rattle.prepare.specs.declared.Prepared.{Prepared}
use Rattle.demands.specs.Demand1.{FileRule}
use Rattle.demands.specs.Demand2.{Answered}
use Rattle.demands.specs.Forwarding.{Exactly, PrepareExactly, PrepareAsJudged}
use Rattle.demands.proofs.Pages.{on_page}
use Rattle.demands.proofs.Demand1.{told}
use Rattle.demands.proofs.Demand2.{judged}
use Rattle.demands.proofs.Forwarding.{listed, listed_one}

-- a file's rules have numbers below 50
pub rule_below : (n : ℕ) → FileRule n → n < 50
rule_below n (inl r) = omega (arith, r.1)
rule_below n (inr (inl r)) = omega (arith, r.1)
rule_below n (inr (inr (inl r))) = omega (arith, r.1)
rule_below n (inr (inr (inr r))) = omega (arith, r.1)

told_below : (n : ℕ) → (n ≡ 0 → ⊥) → (n ≡ 0) ⊎ FileRule n → n < 50
told_below n f (inl z) = absurd (f z)
told_below n f (inr r) = rule_below n r

module _ (page : ℕ) (file transfer cheque out notes : List ℕ) where
  exactly : Exactly page file transfer cheque out notes (notes_of page file) (prepare_by (verdict_of page file transfer cheque) page file out notes)
  unfolding send_of
  exactly =
      go (eqb (verdict_of page file transfer cheque).number 0) (ltb (length out) (length file)) (ltb (length notes) (length (notes_of page file))) refl refl refl
    where
      a : Answered page transfer cheque file (verdict_of page file transfer cheque).number (verdict_of page file transfer cheque).rec (verdict_of page file transfer cheque).at
      a = judged page transfer cheque file

      go : (sound short few : Bool) → eqb (verdict_of page file transfer cheque).number 0 ≡ sound → ltb (length out) (length file) ≡ short
          → ltb (length notes) (length (notes_of page file)) ≡ few
          → Exactly page file transfer cheque out notes (notes_of page file)
          (cond sound (cond short (not_prepared 60 0) (cond few (not_prepared 61 0) (done (length (notes_of page file)))))
          (not_prepared (verdict_of page file transfer cheque).number (verdict_of page file transfer cheque).rec))
      go true true few p q r =
          let s = a.sound.0 (eqb-true _ _ p) in
          let l = ltb-true (length out) (length file) q in
          record {
            done = (λ z. absurd (omega (arith, z)), λ w. absurd (omega (arith, w.1, l)));
            no_room = (λ z. (s, l), λ w. refl);
            no_places = (λ z. absurd (omega (arith, z)), λ w. absurd (omega (arith, w.1, l)));
            record_0 = λ w. refl;
            noted = λ z. absurd (omega (arith, z));
            none_noted = λ z. refl;
          }
      go true false true p q r =
          let s = a.sound.0 (eqb-true _ _ p) in
          let l = ltb-false (length out) (length file) q in
          let m = ltb-true (length notes) (length (notes_of page file)) r in
          record {
            done = (λ z. absurd (omega (arith, z)), λ w. absurd (omega (arith, w.2, m)));
            no_room = (λ z. absurd (omega (arith, z)), λ w. absurd (omega (arith, w.1, l)));
            no_places = (λ z. (s, l, m), λ w. refl);
            record_0 = λ w. refl;
            noted = λ z. absurd (omega (arith, z));
            none_noted = λ z. refl;
          }
      go true false false p q r =
          let s = a.sound.0 (eqb-true _ _ p) in
          let l = ltb-false (length out) (length file) q in
          let m = ltb-false (length notes) (length (notes_of page file)) r in
          record {
            done = (λ z. (s, l, m), λ w. refl);
            no_room = (λ z. absurd (omega (arith, z)), λ w. absurd (omega (arith, w.1, l)));
            no_places = (λ z. absurd (omega (arith, z)), λ w. absurd (omega (arith, w.2, m)));
            record_0 = λ w. refl;
            noted = λ z. refl;
            none_noted = λ z. absurd (z refl);
          }
      go false short few p q r =
          let ne = eqb-false _ _ p in
          let below = told_below _ ne (told page file transfer cheque) in
          record {
            done = (λ z. absurd (ne z), λ w. absurd (ne (a.sound.1 w.0)));
            no_room = (λ z. absurd (omega (arith, z, below)), λ w. absurd (ne (a.sound.1 w.0)));
            no_places = (λ z. absurd (omega (arith, z, below)), λ w. absurd (ne (a.sound.1 w.0)));
            record_0 = λ w. absurd (ne (a.sound.1 w));
            noted = λ z. absurd (ne z);
            none_noted = λ z. refl;
          }

  -- prepare and the judge of an unsound file, and on a page that does not exist
  refused_alike : (taken : List ℕ) → ((verdict_of page file transfer cheque).number ≡ 0 → ⊥)
      → ((prepare_of page file transfer cheque out notes).number ≡ (judge_of page file transfer cheque taken).number)
      × ((prepare_of page file transfer cheque out notes).rec ≡ (judge_of page file transfer cheque taken).rec)
  unfolding prepare_of judge_of
  refused_alike taken ne = go (is_page page)
    where
      p : not_prepared (verdict_of page file transfer cheque).number (verdict_of page file transfer cheque).rec
          ≡ prepare_by (verdict_of page file transfer cheque) page file out notes
      p = off_eq _ ne refl

      j : verdict_of page file transfer cheque ≡ or_taken (verdict_of page file transfer cheque) file taken
      j = off_eq _ ne refl

      go : (there : Bool)
          → ((cond there (prepare_by (verdict_of page file transfer cheque) page file out notes) (not_prepared 7 0)).number
          ≡ (cond there (or_taken (verdict_of page file transfer cheque) file taken) (refused 7 0 0)).number)
          × ((cond there (prepare_by (verdict_of page file transfer cheque) page file out notes) (not_prepared 7 0)).rec
          ≡ (cond there (or_taken (verdict_of page file transfer cheque) file taken) (refused 7 0 0)).rec)
      go true =
          (sym (ap (λ (r : Prepared). r.number) p) ∙ ap (λ (r : Verdict). r.number) j, sym (ap (λ (r : Prepared). r.rec) p) ∙ ap (λ (r : Verdict). r.rec) j)
      go false = (refl, refl)

pub prepare_exactly : PrepareExactly
unfolding prepare_of
prepare_exactly page file transfer cheque out notes out' notes' changes answer there bytes list promise =
    let by = prepare_by (verdict_of page file transfer cheque) page file out notes in
    rw (on_page page (λ (r : Prepared). r.number) by (not_prepared 7 0) answer promise.answer_is there, listed_one page file changes (notes_of page file) list (listed page file bytes))
    (exactly page file transfer cheque out notes)

pub prepare_as_judged : PrepareAsJudged
prepare_as_judged page file transfer cheque taken out notes out' notes' answer verdict promise given unsound =
    rw (promise.answer_is, given)
    (refused_alike page file transfer cheque out notes taken (λ z. unsound ((judged page transfer cheque file).sound.0 z)))
