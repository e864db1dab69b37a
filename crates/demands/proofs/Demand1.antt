-- The numbers that the calls answer are those of document 01's table and 7, which is that of a page that does not exist; and
-- a refused call keeps what it was lent.
use Prim.Native.Nat.{ℕ}
use mathlib.Core.Path.{◌≡◌, refl, sym, ap, ◌∙◌}
use mathlib.Core.Bool.{Bool, true, false, cond}
use mathlib.Core.List.{List}
use mathlib.Core.Logic.{◌⊎◌, inl, inr}
use native.Mathlib.Omega.{arith}
use borrow.Author.Tests.{eqb-true, eqb-false}
use lib.Dec.{eqb, ltb}
use lib.ListN.{length}
use Rattle.laws.specs.Choice.{off_eq, either}
use Rattle.charset.specs.Table.{is_page}
use Rattle.fields.specs.Lists.{is_taken}
use Rattle.structure.specs.Slots.{slot_at}
use Rattle.judge.specs.Sums.{file_number}
use Rattle.judge.specs.Verdict.{refused, verdict_of, or_taken, judge_of}
use Rattle.judge.specs.declared.Verdict.{Verdict}
use Rattle.forwarding.specs.Forwarded.{notes_of}
use Rattle.prepare.specs.Prepared.{not_prepared, send_of, prepare_by, prepare_of}
use Rattle.prepare.specs.declared.Prepared.{Prepared}
use Rattle.restore.specs.Restored.{answer, is_yielded, restore_by, restore_of}
use Rattle.restore.specs.Origin.{refused_keeps}
use Rattle.restore.specs.declared.Restored.{Restored}
use Rattle.demands.specs.Page.{Page, JudgePage, PreparePage, RestorePage}
use Rattle.demands.specs.Broken.{Broken}
use Rattle.demands.specs.Demand1.{FileRule, JudgeNumbers, PrepareNumbers, RestoreNumbers, PrepareKeeps, RestoreKeeps}
use Rattle.demands.proofs.Pages.{one_answer, never_7}
use Rattle.demands.proofs.Turns.{walk_range}
use Rattle.demands.proofs.Demand2.{low, content_rule, judged}

module _ (page : ℕ) (file transfer cheque : List ℕ) where
  pub broken_rule : (m j i : ℕ) → Broken page transfer cheque file m j i → FileRule m
  broken_rule m j i (inl t) = inl (omega (arith, t.rule), omega (arith, t.rule))
  broken_rule m j i (inr (inl u)) = let r = walk_range j (slot_at file j) i m u.broken in inl (omega (arith, r.0), r.1)
  broken_rule m j i (inr (inr w)) = inr (content_rule page transfer cheque file m j i w)

  -- a number that is 0 or a rule's
  abbrev pub Told : ℕ → Type 0
  Told n = (n ≡ 0) ⊎ FileRule n

  pub told : Told (verdict_of page file transfer cheque).number
  told = go (eqb (verdict_of page file transfer cheque).number 0) refl
    where
      go : (b : Bool) → eqb (verdict_of page file transfer cheque).number 0 ≡ b → Told (verdict_of page file transfer cheque).number
      go true e = inl (eqb-true _ _ e)
      go false e =
          let f = (judged page transfer cheque file).first (eqb-false _ _ e) in
          inr (broken_rule (verdict_of page file transfer cheque).number (verdict_of page file transfer cheque).rec f.turn f.there)

-- no rule of a file is 7
pub rule_not_7 : (n : ℕ) → FileRule n → n ≡ 7 → ⊥
rule_not_7 n (inl r) e = omega (arith, r.1, e)
rule_not_7 n (inr r) e = omega (arith, low n r, e)

-- a number on a page that exists: 0, a rule's, or one that the call has of its own. And 7 besides
abbrev Usual : Type 0 → ℕ → Type 0
Usual own n = (n ≡ 0) ⊎ (FileRule n ⊎ own)

module _ {own : Type 0} (n : ℕ) where
  wide : (n ≡ 0) ⊎ FileRule n → Usual own n
  wide (inl z) = inl z
  wide (inr r) = inr (inl r)

  with_7 : Usual own n → Usual ((n ≡ 7) ⊎ own) n
  with_7 (inl z) = inl z
  with_7 (inr (inl r)) = inr (inl r)
  with_7 (inr (inr o)) = inr (inr (inr o))

  pub not_7 : (own → n ≡ 7 → ⊥) → Usual own n → n ≡ 7 → ⊥
  not_7 other (inl z) e = omega (arith, z, e)
  not_7 other (inr (inl r)) e = rule_not_7 n r e
  not_7 other (inr (inr o)) e = other o e

-- a verdict whose number is 0 or a rule's, and the taken numbers
module _ (v : Verdict) (file taken : List ℕ) (t : (v.number ≡ 0) ⊎ FileRule v.number) where
  abbrev JudgesTo : Verdict → Type 0
  JudgesTo w = Usual (w.number ≡ 50) w.number

  judges : JudgesTo (or_taken v file taken)
  judges =
      let plain : JudgesTo v = wide v.number t in
      either JudgesTo (eqb v.number 0) _ _
      (either JudgesTo (is_taken taken (file_number (slot_at file 0))) _ _ (inr (inr refl)) plain) plain

  pub judged_7 : (or_taken v file taken).number ≡ 7 → ⊥
  judged_7 = not_7 _ (λ o e. omega (arith, o, e)) judges

-- and on any page
pub on_any_page : (page : ℕ) (v : Verdict) (file taken : List ℕ) → (v.number ≡ 0) ⊎ FileRule v.number
    → (let w = cond (is_page page) (or_taken v file taken) (refused 7 0 0) in Usual ((w.number ≡ 7) ⊎ (w.number ≡ 50)) w.number)
on_any_page page v file taken t =
    either (λ (w : Verdict). Usual ((w.number ≡ 7) ⊎ (w.number ≡ 50)) w.number) (is_page page) _ _
    (with_7 _ (judges v file taken t)) (inr (inr (inl refl)))

pub judge_numbers : JudgeNumbers
unfolding judge_of
judge_numbers page file transfer cheque taken answer promise =
    rw promise (on_any_page page (verdict_of page file transfer cheque) file taken (told page file transfer cheque))

pub judge_page : JudgePage
unfolding judge_of
judge_page page file transfer cheque taken answer promise =
    let v = verdict_of page file transfer cheque in
    let x = or_taken v file taken in
    let number : Verdict → ℕ = λ w. w.number in
    (never_7 page number x (refused 7 0 0) answer promise (judged_7 v file taken (told page file transfer cheque)), one_answer page number x (refused 7 0 0) answer promise)

module _ (page : ℕ) (file transfer cheque out notes : List ℕ) where
  abbrev PreparesTo : Prepared → Type 0
  PreparesTo a = Usual ((a.number ≡ 60) ⊎ (a.number ≡ 61)) a.number

  abbrev prepared : Prepared
  prepared = prepare_by (verdict_of page file transfer cheque) page file out notes

  prepares : PreparesTo prepared
  unfolding send_of
  prepares =
      either PreparesTo (eqb (verdict_of page file transfer cheque).number 0) _ _
      (either PreparesTo (ltb (length out) (length file)) _ _ (inr (inr (inl refl)))
      (either PreparesTo (ltb (length notes) (length (notes_of page file))) _ _ (inr (inr (inr refl))) (inl refl)))
      (wide (verdict_of page file transfer cheque).number (told page file transfer cheque))

  prepared_7 : prepared.number ≡ 7 → ⊥
  prepared_7 = not_7 _ room prepares
    where
      room : (prepared.number ≡ 60) ⊎ (prepared.number ≡ 61) → prepared.number ≡ 7 → ⊥
      room (inl o) e = omega (arith, o, e)
      room (inr o) e = omega (arith, o, e)

pub prepare_numbers : PrepareNumbers
unfolding prepare_of
prepare_numbers page file transfer cheque out notes out' notes' answer promise =
    rw promise.answer_is
    (either (λ (a : Prepared). Usual ((a.number ≡ 7) ⊎ ((a.number ≡ 60) ⊎ (a.number ≡ 61))) a.number) (is_page page) _ _
    (with_7 _ (prepares page file transfer cheque out notes)) (inr (inr (inl refl))))

abbrev RestoresTo : Restored → Type 0
RestoresTo a = (a.number ≡ 0) ⊎ ((a.number ≡ 7) ⊎ ((a.number ≡ 60) ⊎ (a.number ≡ 70)))

pub restore_numbers : RestoreNumbers
unfolding restore_of
restore_numbers page sent notes transfer cheque out out' answer promise =
    rw promise.answer_is
    (either RestoresTo (is_page page) _ _
    (either RestoresTo (ltb (length out) (length sent)) _ _ (inr (inr (inl refl)))
    (either RestoresTo (is_yielded page sent notes transfer cheque) _ _ (inl refl) (inr (inr (inr refl)))))
    (inr (inl refl)))

pub prepare_keeps : PrepareKeeps
prepare_keeps page file transfer cheque out notes out' notes' answer promise z =
    (promise.out_is ∙ sym (off_eq _ z refl), promise.notes_are ∙ sym (off_eq _ z refl))

pub restore_keeps : RestoreKeeps
restore_keeps page sent notes transfer cheque out out' answer promise z = refused_keeps page transfer cheque sent notes out out' answer promise z

pub prepare_page : PreparePage
unfolding prepare_of
prepare_page page file transfer cheque out notes out' notes' answer promise =
    let x = prepared page file transfer cheque out notes in
    let number : Prepared → ℕ = λ a. a.number in
    let one = one_answer page number x (not_prepared 7 0) answer promise.answer_is in
    let kept : (Page page → ⊥) → (out' ≡ out) × (notes' ≡ notes) =
    λ n. prepare_keeps page file transfer cheque out notes out' notes' answer promise (λ z. omega (arith, z, ap number (one n))) in
    (never_7 page number x (not_prepared 7 0) answer promise.answer_is (prepared_7 page file transfer cheque out notes), λ n. (one n, (kept n).0, (kept n).1))

pub restore_page : RestorePage
unfolding restore_of
restore_page page sent notes transfer cheque out out' given promise =
    let x = restore_by page sent notes transfer cheque (length out) in
    let number : Restored → ℕ = λ a. a.number in
    let one = one_answer page number x (answer 7) given promise.answer_is in
    let other : x.number ≡ 7 → ⊥ =
    either (λ (a : Restored). a.number ≡ 7 → ⊥) (ltb (length out) (length sent)) _ _ (λ e. omega (arith, e))
    (either (λ (a : Restored). a.number ≡ 7 → ⊥) (is_yielded page sent notes transfer cheque) _ _ (λ e. omega (arith, e)) (λ e. omega (arith, e))) in
    (never_7 page number x (answer 7) given promise.answer_is other, λ n. (one n, restore_keeps page sent notes transfer cheque out out' given promise (λ z. omega (arith, z, ap number (one n)))))
