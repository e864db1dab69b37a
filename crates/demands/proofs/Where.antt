-- The fields of each rule but 33 stand by rising place, so that the place that the rule answers is the lowest-placed one's.
-- Rule 33's place, by its four tests. And there is one place.
use Prim.Native.Nat.{ℕ, ◌-◌, ◌≤◌}
use Prim.Native.Char.{code}
use mathlib.Core.Path.{◌≡◌, refl, sym, ap, subst, ◌∙◌}
use mathlib.Core.Bool.{Bool, true, false, ◌&&◌, ◌||◌, not, cond}
use mathlib.Core.List.{List, [], ◌∷◌}
use mathlib.Core.Logic.{◌⊎◌, inl, inr}
use native.Mathlib.Omega.{arith}
use borrow.Author.Tests.{eqb-true, eqb-false}
use lib.Dec.{eqb, T}
use lib.ListN.{get_or}
use Rattle.laws.specs.Choice.{either}
use Rattle.records.specs.Places.{t_place}
use Rattle.records.specs.declared.TField.TheVariants.{T14a, T14b}
use Rattle.fields.specs.Class.{all_of}
use Rattle.fields.specs.declared.Class.TheVariants.{Digit}
use Rattle.rules.specs.Wrong.{Fields, first_wrong}
use Rattle.rules.specs.Q.{rule10, rule11, rule12, rule13, rule14, rule15, rule16}
use Rattle.rules.specs.Z.{rule40, rule41, rule42}
use Rattle.rules.specs.Faults.{by_number, q_rules, z_rules, q_fault, z_fault}
use Rattle.payments.specs.Rules.{in_t, key_of, is_transfer, is_cheque, fields25, fields26, fields27, fields28, transfers31, cheques31, rule20, rule21, rule22, rule23, rule24, rule25, rule26, rule27, rule28, rule29, rule30, rule31, rule32, rule33, rule34, rule35}
use Rattle.payments.specs.Faults.{t_rules, t_fault}
use Rattle.structure.specs.Slots.{slot_at}
use Rattle.structure.specs.Walk.{letter_of}
use Rattle.judge.specs.Sums.{euro_sum}
use Rattle.demands.specs.Broken.{says}
use Rattle.demands.specs.Where.{only, q_fields, t_fields, z_fields, of_rule, fields_of, WrongAt, Lowest, amount_zero, amount_at, Points, PlaceIsOne}
use Rattle.demands.proofs.Ranges.{q_range, z_range}
use Rattle.demands.proofs.Rising.{rises, above, lowest_first}

-- what the rules answer, by their fields
abbrev answers : List (ℕ × Fields) → List (ℕ × ℕ)
answers [] = []
answers (row ∷ rows) = (row.0, first_wrong row.1) ∷ answers rows

first_of : (b : Bool) (x y : Fields) → cond b (first_wrong x) (first_wrong y) ≡ first_wrong (cond b x y)
first_of true x y = refl
first_of false x y = refl

by_number_is : (rows : List (ℕ × Fields)) (rule : ℕ) → by_number (answers rows) rule ≡ first_wrong (of_rule rows rule)
by_number_is [] rule = refl
by_number_is (row ∷ rows) rule =
    ap (cond (eqb rule row.0) (first_wrong row.1)) (by_number_is rows rule) ∙ first_of (eqb rule row.0) row.1 (of_rule rows rule)

-- by rising place, from the first field's on
abbrev Rising : Fields → Type 0
Rising fields = T (rises 5 fields)

-- the fields of a table stand so, those of rule 33 apart
abbrev AllRise : List (ℕ × Fields) → Type 0
AllRise [] = Unit {0}
AllRise (row ∷ rows) = ((row.0 ≡ 33) ⊎ Rising row.1) × AllRise rows

rise_at : (rows : List (ℕ × Fields)) → AllRise rows → (rule : ℕ) → (rule ≡ 33 → ⊥) → Rising (of_rule rows rule)
rise_at [] all rule n = tt
rise_at (row ∷ rows) all rule n = go (eqb rule row.0) refl all.0 (rise_at rows all.1 rule n)
  where
    go : (b : Bool) → eqb rule row.0 ≡ b → (row.0 ≡ 33) ⊎ Rising row.1 → Rising (of_rule rows rule) → Rising (cond b row.1 (of_rule rows rule))
    go true e (inl q) rest = absurd (n (eqb-true rule row.0 e ∙ q))
    go true e (inr t) rest = t
    go false e t rest = rest

infixr 4 ◌also◌
◌also◌ : {A B : Type 0} → A → B → A × B
a also b = (a, b)

-- the tests, computed: by the payment's kind where a rule speaks of one
q_rise : (page : ℕ) (rec : List ℕ) → AllRise (q_fields page rec)
q_rise page rec = inr tt also inr tt also inr tt also inr tt also inr tt also inr tt also inr tt also tt

z_rise : (payments euros : ℕ) (rec : List ℕ) → AllRise (z_fields payments euros rec)
z_rise payments euros rec = inr tt also inr tt also inr tt also tt

q_answers : (page : ℕ) (rec : List ℕ) → q_rules page rec ≡ answers (q_fields page rec)
unfolding rule10 rule11 rule12 rule13 rule14 rule15 rule16
q_answers page rec = refl

z_answers : (payments euros : ℕ) (rec : List ℕ) → z_rules payments euros rec ≡ answers (z_fields payments euros rec)
unfolding rule40 rule41 rule42
z_answers payments euros rec = refl

module _ (page : ℕ) (transfer cheque key rec : List ℕ) where
  cheques : (fields : Fields) → Rising fields → Rising (only (is_cheque rec) fields)
  cheques fields t = either Rising (is_cheque rec) fields [] t tt

  transfers : (fields rest : Fields) → Rising fields → Rising rest → Rising (cond (is_transfer rec) fields rest)
  transfers fields rest t u = either Rising (is_transfer rec) fields rest t u

  t_rise : AllRise (t_fields page transfer cheque key rec)
  t_rise =
      inr tt also inr tt also inr tt also inr tt also inr tt
      also inr (cheques (fields25 page rec) tt)
      also inr (transfers (fields26 page transfer rec) [] tt tt)
      also inr (transfers (fields27 page rec) [] tt tt)
      also inr (transfers (fields28 transfer rec) _ tt (cheques (fields28 cheque rec) tt))
      also inr tt also inr tt
      also inr (transfers (transfers31 page rec) _ tt (cheques (cheques31 page rec) tt))
      also inr tt also inl refl also inr tt also inr tt also tt

  by_kind : (x y : Fields) → cond (is_transfer rec) (first_wrong x) (cond (is_cheque rec) (first_wrong y) 0) ≡ first_wrong (cond (is_transfer rec) x (only (is_cheque rec) y))
  by_kind x y =
      ap (cond (is_transfer rec) (first_wrong x)) (first_of (is_cheque rec) y []) ∙ first_of (is_transfer rec) x (only (is_cheque rec) y)

  t_answers : t_rules page transfer cheque key rec ≡ answers (t_fields page transfer cheque key rec)
  unfolding rule20 rule21 rule22 rule23 rule24 rule25 rule26 rule27 rule28 rule29 rule30 rule31 rule32 rule33 rule34 rule35
  t_answers i =
      (20, rule20 rec) ∷ (21, rule21 key rec) ∷ (22, rule22 rec) ∷ (23, rule23 rec) ∷ (24, rule24 rec)
      ∷ (25, first_of (is_cheque rec) (fields25 page rec) [] i)
      ∷ (26, first_of (is_transfer rec) (fields26 page transfer rec) [] i)
      ∷ (27, first_of (is_transfer rec) (fields27 page rec) [] i)
      ∷ (28, by_kind (fields28 transfer rec) (fields28 cheque rec) i)
      ∷ (29, rule29 page rec) ∷ (30, rule30 rec)
      ∷ (31, by_kind (transfers31 page rec) (cheques31 page rec) i)
      ∷ (32, rule32 rec) ∷ (33, rule33 rec) ∷ (34, rule34 rec) ∷ (35, rule35 rec) ∷ []

-- rule 33 by its four tests
abbrev t14a : ℕ
t14a = (t_place T14a).start

abbrev t14b : ℕ
t14b = (t_place T14b).start

abbrev told : Bool → Bool → Bool → Bool → ℕ
told a b zero last = cond a (cond b (cond (not zero) (cond last 0 t14b) t14a) t14b) t14a

amount_is : (rec : List ℕ) → (rule33 rec ≡ 0 → ⊥) → rule33 rec ≡ amount_at rec
unfolding rule33
amount_is rec = go (all_of Digit (in_t T14a rec)) (all_of Digit (in_t T14b rec)) (amount_zero rec) (eqb (get_or (in_t T14b rec) 2 0) (code "0"))
  where
    go : (a b zero last : Bool) → (told a b zero last ≡ 0 → ⊥) → told a b zero last ≡ cond (not a || (a && b && zero)) t14a t14b
    go false b zero last n = refl
    go true false zero last n = refl
    go true true true last n = refl
    go true true false true n = absurd (n refl)
    go true true false false n = refl

module _ (page : ℕ) (transfer cheque file : List ℕ) where
  -- the tables of a record
  abbrev of_q : ℕ → List (ℕ × Fields)
  of_q rec = q_fields page (slot_at file rec)

  abbrev of_t : ℕ → List (ℕ × Fields)
  of_t rec = t_fields page transfer cheque (key_of (slot_at file 1)) (slot_at file rec)

  abbrev of_z : ℕ → List (ℕ × Fields)
  of_z rec = z_fields (rec - 1) (euro_sum file (rec - 1)) (slot_at file rec)

  says_first : (rec rule : ℕ) → says page transfer cheque file rec rule ≡ first_wrong (fields_of page transfer cheque file rec rule)
  unfolding q_fault t_fault z_fault
  says_first rec rule = go (eqb (letter_of (slot_at file rec)) (code "Q")) (eqb (letter_of (slot_at file rec)) (code "T"))
    where
      numbered : {rules : List (ℕ × ℕ)} (rows : List (ℕ × Fields)) → rules ≡ answers rows → by_number rules rule ≡ first_wrong (of_rule rows rule)
      numbered rows e = ap (λ (table : List (ℕ × ℕ)). by_number table rule) e ∙ by_number_is rows rule

      go : (q t : Bool)
          → cond q (by_number (q_rules page (slot_at file rec)) rule)
          (cond t (by_number (t_rules page transfer cheque (key_of (slot_at file 1)) (slot_at file rec)) rule)
          (by_number (z_rules (rec - 1) (euro_sum file (rec - 1)) (slot_at file rec)) rule))
          ≡ first_wrong (cond q (of_rule (of_q rec) rule) (cond t (of_rule (of_t rec) rule) (of_rule (of_z rec) rule)))
      go true t = numbered (of_q rec) (q_answers page (slot_at file rec))
      go false true = numbered (of_t rec) (t_answers page transfer cheque (key_of (slot_at file 1)) (slot_at file rec))
      go false false =
          numbered (of_z rec) (z_answers (rec - 1) (euro_sum file (rec - 1)) (slot_at file rec))

  fields_rise : (rec rule : ℕ) → (rule ≡ 33 → ⊥) → Rising (fields_of page transfer cheque file rec rule)
  fields_rise rec rule n =
      either Rising (eqb (letter_of (slot_at file rec)) (code "Q")) _ _ (rise_at (of_q rec) (q_rise page (slot_at file rec)) rule n)
      (either Rising (eqb (letter_of (slot_at file rec)) (code "T")) _ _ (rise_at (of_t rec) (t_rise page transfer cheque (key_of (slot_at file 1)) (slot_at file rec)) rule n)
      (rise_at (of_z rec) (z_rise (rec - 1) (euro_sum file (rec - 1)) (slot_at file rec)) rule n))

  -- no field stands at 0
  pub placed : (rec rule at : ℕ) → (rule ≡ 33 → ⊥) → WrongAt (fields_of page transfer cheque file rec rule) at → 5 ≤ at
  placed rec rule at n w = above 5 (fields_of page transfer cheque file rec rule) (fields_rise rec rule n) at w

  at_amount : (rec : ℕ) → (says page transfer cheque file rec 33 ≡ 0 → ⊥) → says page transfer cheque file rec 33 ≡ amount_at (slot_at file rec)
  unfolding t_fault
  at_amount rec = go (eqb (letter_of (slot_at file rec)) (code "Q")) (eqb (letter_of (slot_at file rec)) (code "T"))
    where
      go : (q t : Bool)
          → (cond q (q_fault page (slot_at file rec) 33)
          (cond t (rule33 (slot_at file rec)) (z_fault (rec - 1) (euro_sum file (rec - 1)) (slot_at file rec) 33)) ≡ 0
          → ⊥)
          → cond q (q_fault page (slot_at file rec) 33)
          (cond t (rule33 (slot_at file rec)) (z_fault (rec - 1) (euro_sum file (rec - 1)) (slot_at file rec) 33)) ≡ amount_at (slot_at file rec)
      go true t n = absurd (omega (arith, (q_range page (slot_at file rec) 33 n).1))
      go false true n = amount_is (slot_at file rec) n
      go false false n = absurd (omega (arith, (z_range (rec - 1) (euro_sum file (rec - 1)) (slot_at file rec) 33 n).0))

  -- a content rule points to the place that it answers, structure and a sound file to none
  pub points : (number rec at : ℕ) → 10 ≤ number → (says page transfer cheque file rec number ≡ 0 → ⊥) → at ≡ says page transfer cheque file rec number
      → Points page transfer cheque file number rec at
  points number rec at h n e =
      record {
        nowhere = λ l. absurd (omega (arith, h));
        lowest =
            λ l other.
            let is = says_first rec number in
            subst (Lowest (fields_of page transfer cheque file rec number)) (sym (e ∙ is))
            (lowest_first 5 (fields_of page transfer cheque file rec number) (fields_rise rec number other) (λ z. n (is ∙ z)));
        amount = λ q. e ∙ amount q;
      }
    where
      amount : number ≡ 33 → says page transfer cheque file rec number ≡ amount_at (slot_at file rec)
      amount q =
          let is : says page transfer cheque file rec number ≡ says page transfer cheque file rec 33 = ap (says page transfer cheque file rec) q in
          is ∙ at_amount rec (λ z. n (is ∙ z))

  pub points_nowhere : (number rec : ℕ) → number ≤ 5 → Points page transfer cheque file number rec 0
  points_nowhere number rec h =
      record { nowhere = λ l. refl; lowest = λ l other. absurd (omega (arith, h, l)); amount = λ q. absurd (omega (arith, h, q)) }

pub place_is_one : PlaceIsOne
place_is_one page transfer cheque file number rec a b (inl l) p q = p.nowhere l ∙ sym (q.nowhere l)
place_is_one page transfer cheque file number rec a b (inr l) p q = go (eqb number 33) refl
  where
    go : (t : Bool) → eqb number 33 ≡ t → a ≡ b
    go true e = let s = eqb-true number 33 e in p.amount s ∙ sym (q.amount s)
    go false e =
        let other = eqb-false number 33 e in
        let x = p.lowest l other in
        let y = q.lowest l other in
        omega (arith, x.none_lower b y.wrong, y.none_lower a x.wrong)
