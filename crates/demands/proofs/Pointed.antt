-- Where the judge's answer points: the rules that one field alone can break, and the answers that point nowhere.
use Prim.Native.Nat.{ℕ, ◌-◌, ◌≤◌}
use Prim.Native.Char.{code}
use mathlib.Core.Path.{◌≡◌, refl, sym, subst, ◌∙◌}
use mathlib.Core.Bool.{Bool, true, false}
use mathlib.Core.List.{List, [], ◌∷◌}
use mathlib.Core.Logic.{◌⊎◌, ◌↔◌, inl, inr}
use native.Mathlib.Omega.{arith}
use borrow.Author.Tests.{eqb-true, eqb-false}
use lib.Dec.{eqb, lit≤}
use Rattle.laws.specs.Choice.{either}
use Rattle.charset.specs.Table.{is_page}
use Rattle.records.specs.Places.{t_place, z_place}
use Rattle.records.specs.declared.TField.TheVariants.{T9b, T10b, T14a, T14b}
use Rattle.records.specs.declared.ZField.TheVariants.{Z3, Z4}
use Rattle.fields.specs.Lists.{is_taken}
use Rattle.rules.specs.Wrong.{Fields}
use Rattle.payments.specs.Rules.{key_of, is_transfer, fields27}
use Rattle.structure.specs.Slots.{slot_at}
use Rattle.structure.specs.Walk.{letter_of}
use Rattle.judge.specs.Sums.{euro_sum, file_number}
use Rattle.judge.specs.Verdict.{verdict_of, judge_of}
use Rattle.judge.specs.declared.Verdict.{Verdict}
use Rattle.report.specs.Annexes.{annex_i, annex_ii}
use Rattle.demands.specs.Demand1.{FileRule}
use Rattle.demands.specs.Where.{q_fields, t_fields, z_fields, of_rule, fields_of, WrongAt, points_to_t14a, Points, Named, PlacesNamed, JudgeAtZero, TellAtZero}
use Rattle.demands.specs.Program.{verdict_in}
use Rattle.demands.proofs.Demand1.{told, rule_not_7}
use Rattle.demands.proofs.Demand2.{low, judged}
use Rattle.demands.proofs.Prepare.{rule_below}
use Rattle.demands.proofs.Program.{tell_numbers, tell_answers, never_shows}
use Rattle.demands.proofs.Where.{placed}

-- an answer is 7 or 50 and points nowhere, or it is a verdict's
abbrev Pointed : ℕ → List ℕ → List ℕ → List ℕ → Verdict → Type 0
Pointed page file transfer cheque v =
    (((v.number ≡ 7) ⊎ (v.number ≡ 50)) × (v.at ≡ 0))
    ⊎ (((v.number ≡ 0) ⊎ FileRule v.number) × Points page transfer cheque file v.number v.rec v.at)

pointed : (page : ℕ) (file transfer cheque taken : List ℕ) → Pointed page file transfer cheque (judge_of page file transfer cheque taken)
unfolding judge_of
pointed page file transfer cheque taken =
    let v = verdict_of page file transfer cheque in
    let plain : Pointed page file transfer cheque v = inr (told page file transfer cheque, (judged page transfer cheque file).place) in
    either (Pointed page file transfer cheque) (is_page page) _ _
    (either (Pointed page file transfer cheque) (eqb v.number 0) _ _
    (either (Pointed page file transfer cheque) (is_taken taken (file_number (slot_at file 0))) _ _ (inl (inr refl, refl)) plain) plain)
    (inl (inl refl, refl))

-- all fields of a rule stand at one place
abbrev AllAt : ℕ → Fields → Type 0
AllAt place [] = Unit {0}
AllAt place (field ∷ fields) = (field.0 ≡ place) × AllAt place fields

at_one : (place : ℕ) (fields : Fields) → AllAt place fields → (at : ℕ) → WrongAt fields at → at ≡ place
at_one place [] all at w = absurd w
at_one place (field ∷ fields) all at (inl w) = sym w.0 ∙ all.0
at_one place (field ∷ fields) all at (inr w) = at_one place fields all.1 at w

module _ (page : ℕ) (transfer cheque file : List ℕ) (v : Verdict) where
  -- a rule whose fields stand at one place, in each kind of record, points to it
  at_place : (rule place : ℕ)
      → ((rec : List ℕ) → AllAt place (of_rule (q_fields page rec) rule))
      → ((key rec : List ℕ) → AllAt place (of_rule (t_fields page transfer cheque key rec) rule))
      → ((payments euros : ℕ) (rec : List ℕ) → AllAt place (of_rule (z_fields payments euros rec) rule))
      → 10 ≤ rule → (rule ≡ 33 → ⊥) → (rule ≡ 50 → ⊥) → Pointed page file transfer cheque v → v.number ≡ rule → v.at ≡ place
  at_place rule place q t z l n m (inl (inl p, o)) e = absurd (omega (arith, p, e, l))
  at_place rule place q t z l n m (inl (inr p, o)) e = absurd (m (sym e ∙ p))
  at_place rule place q t z l n m (inr p) e =
      at_one place (fields_of page transfer cheque file v.rec rule) all v.at
      (subst (λ (r : ℕ). WrongAt (fields_of page transfer cheque file v.rec r) v.at) e
      (p.1.lowest (omega (arith, e, l)) (λ s. n (sym e ∙ s))).wrong)
    where
      all : AllAt place (fields_of page transfer cheque file v.rec rule)
      all =
          either (AllAt place) (eqb (letter_of (slot_at file v.rec)) (code "Q")) _ _ (q (slot_at file v.rec))
          (either (AllAt place) (eqb (letter_of (slot_at file v.rec)) (code "T")) _ _ (t (key_of (slot_at file 1)) (slot_at file v.rec))
          (z (v.rec - 1) (euro_sum file (v.rec - 1)) (slot_at file v.rec)))

  named : Pointed page file transfer cheque v → Named v.number v.at
  named p =
      record {
        rule27 =
            at_place 27 (t_place T9b).start (λ rec. tt) (λ key rec. either (AllAt (t_place T9b).start) (is_transfer rec) (fields27 page rec) [] (refl, tt) tt) (λ n e rec. tt)
            (lit≤ tt) (λ e. omega (arith, e)) (λ e. omega (arith, e)) p;
        rule29 = at_place 29 (t_place T10b).start (λ rec. tt) (λ key rec. (refl, (refl, tt))) (λ n e rec. tt) (lit≤ tt) (λ e. omega (arith, e)) (λ e. omega (arith, e)) p;
        rule41 = at_place 41 (z_place Z4).start (λ rec. tt) (λ key rec. tt) (λ n e rec. (refl, tt)) (lit≤ tt) (λ e. omega (arith, e)) (λ e. omega (arith, e)) p;
        rule42 = at_place 42 (z_place Z3).start (λ rec. tt) (λ key rec. tt) (λ n e rec. (refl, tt)) (lit≤ tt) (λ e. omega (arith, e)) (λ e. omega (arith, e)) p;
      }

  -- a content rule points to a field, and none stands at 0
  at_field : 10 ≤ v.number → Points page transfer cheque file v.number v.rec v.at → 5 ≤ v.at
  at_field l p = go (eqb v.number 33) refl
    where
      go : (b : Bool) → eqb v.number 33 ≡ b → 5 ≤ v.at
      go true e =
          subst (λ (at : ℕ). 5 ≤ at) (sym (p.amount (eqb-true v.number 33 e)))
          (either (λ (at : ℕ). 5 ≤ at) (points_to_t14a (slot_at file v.rec)) (t_place T14a).start (t_place T14b).start (lit≤ tt) (lit≤ tt))
      go false e =
          let other = eqb-false v.number 33 e in
          placed page transfer cheque file v.rec v.number v.at other (p.lowest l other).wrong

  at_zero : Pointed page file transfer cheque v → (v.at ≡ 0) ↔ ((v.number ≤ 5) ⊎ ((v.number ≡ 7) ⊎ (v.number ≡ 50)))
  at_zero (inl p) = (λ z. inr p.0, λ w. p.1)
  at_zero (inr p) = (to p.0, back)
    where
      to : (v.number ≡ 0) ⊎ FileRule v.number → v.at ≡ 0 → (v.number ≤ 5) ⊎ ((v.number ≡ 7) ⊎ (v.number ≡ 50))
      to (inl e) z = inl (omega (arith, e))
      to (inr (inl r)) z = inl r.1
      to (inr (inr r)) z = absurd (omega (arith, z, at_field (low v.number r) p.1))

      below : (v.number ≡ 0) ⊎ FileRule v.number → (v.number ≡ 7) ⊎ (v.number ≡ 50) → v.number ≤ 5
      below (inl e) q = omega (arith, e)
      below (inr r) (inl q) = absurd (rule_not_7 v.number r q)
      below (inr r) (inr q) = absurd (omega (arith, q, rule_below v.number r))

      back : (v.number ≤ 5) ⊎ ((v.number ≡ 7) ⊎ (v.number ≡ 50)) → v.at ≡ 0
      back (inl l) = p.1.nowhere l
      back (inr e) = p.1.nowhere (below p.0 e)

pub places_named : PlacesNamed
places_named page file transfer cheque taken answer promise =
    named page transfer cheque file answer (subst (Pointed page file transfer cheque) (sym promise) (pointed page file transfer cheque taken))

pub judge_at_zero : JudgeAtZero
judge_at_zero page file transfer cheque taken answer promise =
    at_zero page transfer cheque file answer (subst (Pointed page file transfer cheque) (sym promise) (pointed page file transfer cheque taken))

pub tell_at_zero : TellAtZero
tell_at_zero input answer promise = (λ z. to (both.0 z), λ l. both.1 (inl l))
  where
    both : (answer.at ≡ 0) ↔ ((answer.verdict ≤ 5) ⊎ ((answer.verdict ≡ 7) ⊎ (answer.verdict ≡ 50)))
    both = judge_at_zero 1 input annex_ii annex_i [] (verdict_in answer) (tell_answers input answer promise).judged

    to : (answer.verdict ≤ 5) ⊎ ((answer.verdict ≡ 7) ⊎ (answer.verdict ≡ 50)) → answer.verdict ≤ 5
    to (inl l) = l
    to (inr (inl q)) = absurd (told_7 (tell_numbers input answer promise))
      where
        told_7 : (answer.verdict ≡ 0) ⊎ FileRule answer.verdict → ⊥
        told_7 (inl z) = omega (arith, z, q)
        told_7 (inr r) = rule_not_7 answer.verdict r q
    to (inr (inr q)) = absurd ((never_shows input answer promise).0 q)
