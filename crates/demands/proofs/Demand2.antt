-- The verdict is the first broken rule in the stated order, and 0 exactly where none is broken.
use Prim.Native.Nat.{ℕ, ◌+◌, ◌-◌, ◌≤◌, ◌<◌}
use Prim.Native.Char.{code}
use mathlib.Core.Path.{◌≡◌, refl, sym, ap, subst, subst₂, ◌∙◌}
use mathlib.Core.Bool.{Bool, true, false, cond}
use mathlib.Core.List.{List}
use mathlib.Core.Logic.{inl, inr}
use native.Mathlib.Omega.{arith}
use borrow.Author.Tests.{eqb-true, eqb-false}
use lib.Dec.{eqb, leb}
use lib.ListN.{length}
use Rattle.rules.specs.Faults.{q_fault, z_fault}
use Rattle.payments.specs.Rules.{key_of}
use Rattle.payments.specs.Faults.{t_fault}
use Rattle.structure.specs.Slots.{slot_at}
use Rattle.structure.specs.Walk.{letter_of, structure_of}
use Rattle.structure.specs.Fits.{Fit, Stuck, Tells, tells}
use Rattle.structure.specs.Shape.{Shape, Fits, Refused}
use Rattle.judge.specs.Sums.{euro_sum, cent_sum}
use Rattle.judge.specs.First.{first_broken}
use Rattle.judge.specs.Content.{fault_of, rule_from, rule_end, content_of, rule_real}
use Rattle.judge.specs.Meaning.{FirstBroken, none_broken, broken}
use Rattle.judge.specs.Verdict.{refused, sound, unless, verdict_of}
use Rattle.judge.specs.Told.{told_refused, told_fits}
use Rattle.judge.specs.declared.Breach.{Breach}
use Rattle.judge.specs.declared.Verdict.{Verdict}
use Rattle.demands.specs.Broken.{TooLong, Unfit, Wrong, Broken, Before, stage, walk_rules, BrokenIn}
use Rattle.demands.specs.Demand1.{ContentRule}
use Rattle.demands.specs.Demand2.{Sound, Answered, Judged}
use Rattle.demands.specs.Where.{Points}
use Rattle.demands.proofs.Ranges.{q_range, t_range, z_range, stage_content, stage_walk}
use Rattle.demands.proofs.Turns.{FirstIn, told_first, walk_range, right_whole, due_walked, walked_due}
use Rattle.demands.proofs.Fitting.{due_to, due_here, right_here, no_unfit, says_is}
use Rattle.demands.proofs.Where.{points, points_nowhere}

-- content rules begin at 10
pub low : (m : ℕ) → ContentRule m → 10 ≤ m
low m (inl r) = r.0
low m (inr (inl r)) = omega (arith, r.0)
low m (inr (inr r)) = omega (arith, r.0)

module _ (page : ℕ) (transfer cheque file : List ℕ) where
  -- rule 1 is broken by long files alone
  no_long : (m j i : ℕ) → length file ≤ 7679744 → TooLong file m j i → ⊥
  no_long m j i short t = omega (arith, t.long)

  -- the stage of each kind of fault
  pub unfit_stage : (m j i : ℕ) → Unfit file m j i → stage m ≡ 1
  unfit_stage m j i u = let r = walk_range j (slot_at file j) i m u.broken in stage_walk m r.0 r.1

  pub content_rule : (m j i : ℕ) → Wrong page transfer cheque file m j i → ContentRule m
  content_rule m j i w = go (eqb (letter_of (slot_at file j)) (code "Q")) (eqb (letter_of (slot_at file j)) (code "T")) w.broken
    where
      go : (a b : Bool)
          → (cond a (q_fault page (slot_at file j) m)
          (cond b (t_fault page transfer cheque (key_of (slot_at file 1)) (slot_at file j) m) (z_fault (j - 1) (euro_sum file (j - 1)) (slot_at file j) m))
          ≡ 0
          → ⊥)
          → ContentRule m
      go true b f = let r = q_range page (slot_at file j) m f in inl (r.0, omega (arith, r.1))
      go false true f = let r = t_range page transfer cheque (key_of (slot_at file 1)) (slot_at file j) m f in inr (inl (r.0, omega (arith, r.1)))
      go false false f = let r = z_range (j - 1) (euro_sum file (j - 1)) (slot_at file j) m f in inr (inr (r.0, omega (arith, r.1)))

  pub content_stage : (m j i : ℕ) → Wrong page transfer cheque file m j i → stage m ≡ 2
  content_stage m j i w = stage_content m (low m (content_rule m j i w))

  module _ (n : ℕ) (short : length file ≤ 7679744) (fit : Fit file n) where
    F : ℕ → ℕ → ℕ
    F j m = fault_of page file n (euro_sum file n) transfer cheque j m

    in_rules : (j m : ℕ) → (F j m ≡ 0 → ⊥) → (rule_from n j ≤ m) × (m < rule_end n j)
    unfolding F fault_of
    in_rules j m = go (eqb j 0) (leb j n)
      where
        go : (a b : Bool)
            → (cond a (q_fault page (slot_at file 0) m)
            (cond b (t_fault page transfer cheque (key_of (slot_at file 1)) (slot_at file j) m) (z_fault n (euro_sum file n) (slot_at file j) m)) ≡ 0
            → ⊥)
            → (cond a 10 (cond b 20 40) ≤ m) × (m < cond a 17 (cond b 36 43))
        go true b f = q_range page (slot_at file 0) m f
        go false true f = t_range page transfer cheque (key_of (slot_at file 1)) (slot_at file j) m f
        go false false f = z_range n (euro_sum file n) (slot_at file j) m f

    due_in : (m j i : ℕ) → Wrong page transfer cheque file m j i → j ≤ n + 1
    due_in m j i w = due_to file n fit j (due_walked file j w.due)

    wrong_f : (m j i : ℕ) → Wrong page transfer cheque file m j i → F j m ≡ 0 → ⊥
    unfolding F
    wrong_f m j i w e = w.broken (says_is file n fit page transfer cheque m j (due_in m j i w) ∙ e)

    -- what is broken in a file that fits is a rule of one of its records
    is_wrong : (m j i : ℕ) → Broken page transfer cheque file m j i → Wrong page transfer cheque file m j i
    is_wrong m j i (inl t) = absurd (no_long m j i short t)
    is_wrong m j i (inr (inl u)) = absurd (no_unfit file n fit m j i u)
    is_wrong m j i (inr (inr w)) = w

    pub broken_in : (m j i : ℕ) → Broken page transfer cheque file m j i
        → (j ≤ n + 1) × (fault_of page file n (euro_sum file n) transfer cheque j m ≡ 0 → ⊥)
    unfolding F
    broken_in m j i b = let w = is_wrong m j i b in (due_in m j i w, wrong_f m j i w)

    answer : Breach
    answer = first_broken F (rule_from n) (rule_end n) (n + 2)

    none_wrong : answer.number ≡ 0 → (m j i : ℕ) → Wrong page transfer cheque file m j i → ⊥
    unfolding answer
    none_wrong z m j i w =
        let f = wrong_f m j i w in
        let r = in_rules j m f in
        f (none_broken F (rule_from n) (rule_end n) (rule_real n) (n + 2) z j (omega (arith, due_in m j i w)) m r.0 r.1)

    module _ (ne : answer.number ≡ 0 → ⊥) where
      found : FirstBroken F (rule_from n) (rule_end n) (rule_real n) (n + 2) answer
      unfolding answer
      found = broken F (rule_from n) (rule_end n) (rule_real n) (n + 2) ne

      there : Wrong page transfer cheque file answer.number answer.rec answer.number
      unfolding F
      there =
          let in_file : answer.rec ≤ n + 1 = omega (arith, found.below) in
          record {
            own_turn = refl;
            due = walked_due file answer.rec (due_here file n fit answer.rec found.below);
            whole = right_whole file answer.rec (right_here file n fit answer.rec in_file);
            broken = λ e. found.broken (sym (says_is file n fit page transfer cheque answer.number answer.rec in_file) ∙ e);
          }

      none_before : (m j i : ℕ) → Before m j i answer.number answer.rec answer.number → Wrong page transfer cheque file m j i → ⊥
      none_before m j i (inl l) w =
          omega (arith, content_stage m j i w, content_stage answer.number answer.rec answer.number there)
      none_before m j i (inr (e, inl l)) w =
          let f = wrong_f m j i w in
          let r = in_rules j m f in
          f (found.records_before j l m r.0 r.1)
      none_before m j i (inr (e, inr (q, l))) w =
          let f = wrong_f m j i w in
          let r = in_rules j m f in
          let below : m < answer.number = omega (arith, w.own_turn, l) in
          f (ap (λ (k : ℕ). F k m) q ∙ found.rules_before m (subst (λ (k : ℕ). rule_from n k ≤ m) q r.0) below)

      place : Points page transfer cheque file answer.number answer.rec answer.at
      unfolding F
      place =
          points page transfer cheque file answer.number answer.rec answer.at (low answer.number (content_rule answer.number answer.rec answer.number there)) there.broken
          (found.place ∙ sym (says_is file n fit page transfer cheque answer.number answer.rec (omega (arith, found.below))))

    of_fits : Answered page transfer cheque file (unless answer (sound n (euro_sum file n) (cent_sum file n))).number
        (unless answer (sound n (euro_sum file n) (cent_sum file n))).rec (unless answer (sound n (euro_sum file n) (cent_sum file n))).at
    of_fits = go (eqb answer.number 0) refl
      where
        v : Bool → Verdict
        v t = cond t (sound n (euro_sum file n) (cent_sum file n)) (refused answer.number answer.rec answer.at)

        go : (t : Bool) → eqb answer.number 0 ≡ t → Answered page transfer cheque file (v t).number (v t).rec (v t).at
        go true e =
            let none : Sound page transfer cheque file = λ m j i b. none_wrong (eqb-true answer.number 0 e) m j i (is_wrong m j i b) in
            record { sound = (λ z. none, λ f. refl); first = λ ne. absurd (ne refl); place = points_nowhere page transfer cheque file 0 0 (omega arith) }
        go false e =
            let ne = eqb-false answer.number 0 e in
            let here : Broken page transfer cheque file answer.number answer.rec answer.number = inr (inr (there ne)) in
            record {
              sound = (λ z. absurd (ne z), λ none. absurd (none answer.number answer.rec answer.number here));
              first = λ f. record { turn = answer.number; there = here; none_before = λ m j i b x. none_before ne m j i b (is_wrong m j i x) };
              place = place ne;
            }

  -- a file that is too long
  of_long : 7679744 < length file → Answered page transfer cheque file 1 0 0
  of_long l =
      let here : Broken page transfer cheque file 1 0 0 = inl (record { rule = refl; first_record = refl; first_turn = refl; long = l }) in
      record {
        sound = (λ z. absurd (omega (arith, z)), λ none. absurd (none 1 0 0 here));
        first = λ f. record { turn = 0; there = here; none_before = λ m j i b x. none_first m j i b };
        place = points_nowhere page transfer cheque file 1 0 (omega arith);
      }
    where
      none_first : (m j i : ℕ) → Before m j i 1 0 0 → ⊥
      none_first m j i (inl l) = omega arith
      none_first m j i (inr (e, inl l)) = omega arith
      none_first m j i (inr (e, inr (q, l))) = omega arith

  -- a record that the walk cannot pass
  of_stuck : (number rec : ℕ) → length file ≤ 7679744 → Stuck file number rec → Answered page transfer cheque file number rec 0
  of_stuck number rec short s =
      record {
        sound = (λ z. absurd (s.real z), λ none. absurd (none number rec f.turn here));
        first = λ z. record { turn = f.turn; there = here; none_before = none_before };
        place = points_nowhere page transfer cheque file number rec (walk_range rec (slot_at file rec) f.turn number f.there).1;
      }
    where
      f : FirstIn (walk_rules rec (slot_at file rec)) number
      f = told_first rec (slot_at file rec) number s.broken s.real

      unfit : Unfit file number rec f.turn
      unfit = record { due = walked_due file rec s.due; broken = f.there }

      here : Broken page transfer cheque file number rec f.turn
      here = inr (inl unfit)

      here_1 : stage number ≡ 1
      here_1 = unfit_stage number rec f.turn unfit

      none_before : (m j i : ℕ) → Before m j i number rec f.turn → Broken page transfer cheque file m j i → ⊥
      none_before m j i b (inl t) = no_long m j i short t
      none_before m j i (inl l) (inr (inl u)) = omega (arith, here_1, unfit_stage m j i u)
      none_before m j i (inr (e, inl l)) (inr (inl u)) = right_whole file j (s.due j l).right i m u.broken
      none_before m j i (inr (e, inr (q, l))) (inr (inl u)) =
          f.none_before i m l (subst (λ (k : ℕ). BrokenIn (walk_rules k (slot_at file k)) i m) q u.broken)
      none_before m j i (inl l) (inr (inr w)) = omega (arith, here_1, content_stage m j i w)
      none_before m j i (inr (e, x)) (inr (inr w)) = omega (arith, here_1, content_stage m j i w)

pub judged : Judged
unfolding content_of answer F
judged page transfer cheque file = go (structure_of file) refl (tells file)
  where
    by : (v : Verdict) → v ≡ verdict_of page file transfer cheque → Answered page transfer cheque file v.number v.rec v.at
        → Answered page transfer cheque file (verdict_of page file transfer cheque).number (verdict_of page file transfer cheque).rec (verdict_of page file transfer cheque).at
    by v e a = subst (λ (w : Verdict). Answered page transfer cheque file w.number w.rec w.at) e a

    go : (s : Shape) → structure_of file ≡ s → Tells file s
        → Answered page transfer cheque file (verdict_of page file transfer cheque).number (verdict_of page file transfer cheque).rec (verdict_of page file transfer cheque).at
    go (Fits n) e t = by _ (told_fits page file transfer cheque n e) (of_fits page transfer cheque file n t.0 t.1)
    go (Refused number rec) e (inl t) =
        by _ (told_refused page file transfer cheque number rec e)
        (subst₂ (λ (m k : ℕ). Answered page transfer cheque file m k 0) (sym t.1) (sym t.2) (of_long page transfer cheque file t.0))
    go (Refused number rec) e (inr t) =
        by _ (told_refused page file transfer cheque number rec e) (of_stuck page transfer cheque file number rec t.0 t.1)
