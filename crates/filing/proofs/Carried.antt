-- A record's bytes: its digits are digits, and its text is such as the receiver carries.
use Prim.Native.Nat.{ℕ, ◌*◌, ◌-◌}
use mathlib.Core.Path.{◌≡◌, refl, sym, ap, ap₂, ◌∙◌}
use mathlib.Core.Bool.{Bool, true, false, cond, ◌&&◌, false≢true}
use mathlib.Core.List.{List, [], ◌∷◌, ◌++◌, append_assoc}
use native.Mathlib.Omega.{arith}
use lib.ListN.{length, take, drop, length-append, take-append-drop}
use lib.Seq.{take_at, drop_at, take_all}
use Rattle.laws.specs.Choice.{both}
use Rattle.laws.specs.Ascii.{zeros, spaces}
use Rattle.charset.specs.Table.{unchanged, text, rep_unchanged}
use Rattle.records.specs.Places.{◌to◌, part, line_of, t_place}
use Rattle.records.specs.declared.QField.TheVariants.{Q6, Q7}
use Rattle.records.specs.declared.TField.TheVariants.{T14a, T14b, T15}
use Rattle.fields.specs.Class.{member, every, all_of}
use Rattle.fields.specs.Number.{is_date}
use Rattle.fields.specs.Laws.{every_append, member_unchanged}
use Rattle.fields.specs.declared.Class.TheVariants.{Digit}
use Rattle.rules.specs.Wrong.{Fields, first_wrong}
use Rattle.rules.specs.Q.{in_q, fields14, rule13, rule14}
use Rattle.rules.specs.Faults.{q_fault}
use Rattle.payments.specs.Rules.{in_t}
use Rattle.judge.specs.Records.{joined}
use Rattle.sorting.specs.Sorted.{in_digits}
use Rattle.m8.specs.Record.{amount_of, reference_of, fields, m8_of, code_of}
use Rattle.m8.specs.Writing.{joined_append, reference_long}
use Rattle.filing.specs.Filing.{OfPayment, Carried}

-- a test of every byte, of lists that are joined or parted
module _ (test : ℕ → Bool) where
  every_both : (s t : List ℕ) → every test s ≡ true → every test t ≡ true → every test (s ++ t) ≡ true
  every_both s t p q = every_append test s t ∙ ap₂ ◌&&◌ p q

  every_parted : (n : ℕ) (s : List ℕ) → every test s ≡ true → (every test (take n s) ≡ true) × (every test (drop n s) ≡ true)
  every_parted n s p =
      both (every test (take n s)) (every test (drop n s)) (sym (every_append test (take n s) (drop n s)) ∙ ap (every test) (take-append-drop n s) ∙ p)

-- replaced text, and digits
every_replaced : (page : ℕ) (s : List ℕ) → every unchanged (text page s) ≡ true
every_replaced page [] = refl
every_replaced page (x ∷ s) = ap₂ ◌&&◌ (rep_unchanged page x) (every_replaced page s)

digits_carried : (s : List ℕ) → all_of Digit s ≡ true → every unchanged s ≡ true
unfolding all_of
digits_carried [] e = refl
digits_carried (x ∷ s) e =
    let w = both (member Digit x) (every (member Digit) s) e in
    ap₂ ◌&&◌ (member_unchanged Digit x w.0) (digits_carried s w.1)

-- the digits of Q6 and Q7, by rules 13 and 14
module _ (page : ℕ) (q : List ℕ) where
  first_right : (row : ℕ × Bool) (rows : Fields) → (row.0 ≡ 0 → ⊥) → first_wrong (row ∷ rows) ≡ 0 → row.1 ≡ true
  first_right row rows f e = go row.1 e
    where
      go : (right : Bool) → cond right (first_wrong rows) row.0 ≡ 0 → right ≡ true
      go true e = refl
      go false e = absurd (f e)

  abbrev rest : Fields → Fields
  rest [] = []
  rest (row ∷ rows) = rows

  pub date_digits : q_fault page q 13 ≡ 0 → all_of Digit (in_q Q6 q) ≡ true
  unfolding q_fault rule13 is_date
  date_digits e =
      let right : is_date (in_q Q6 q) ≡ true = first_right (163, is_date (in_q Q6 q)) [] (λ z. omega (arith, z)) e in
      go (all_of Digit (in_q Q6 q)) _ _ _ _ right
    where
      go : (a b c d e : Bool) → a && b && c && d && e ≡ true → a ≡ true
      go true b c d e h = refl
      go false b c d e h = absurd (false≢true h)

  pub number_digits : q_fault page q 14 ≡ 0 → all_of Digit (in_q Q7 q) ≡ true
  unfolding q_fault rule14
  number_digits e = first_right (169, all_of Digit (in_q Q7 q)) (rest (fields14 q)) (λ z. omega (arith, z)) e

module _ (page : ℕ) (q codes t : List ℕ) (rule : ℕ) {m8 : List ℕ} (of : OfPayment page q codes t rule m8) (is : m8 ≡ m8_of page q (code_of codes rule) t)
    (lt : length t ≡ 768) (lc : length (code_of codes rule) ≡ 6) (q-date : q_fault page q 13 ≡ 0) (q_number : q_fault page q 14 ≡ 0) (digits : in_digits t ≡ true) where
  date : all_of Digit (in_q Q6 q) ≡ true
  date = date_digits page q q-date

  number : all_of Digit (zeros 3 ++ in_q Q7 q) ≡ true
  unfolding all_of
  number = number_digits page q q_number

  amount : all_of Digit (amount_of t) ≡ true
  unfolding all_of part
  amount =
      let w = both (all_of Digit (in_t T14a t)) (all_of Digit (in_t T14b t)) digits in
      every_both (member Digit) (in_t T14a t) (take 2 (in_t T14b t)) w.0 (every_parted (member Digit) 2 (in_t T14b t) w.1).0

  -- the fields before the code, and those behind it
  abbrev front : List ℕ
  front = joined (take 8 (fields page q (code_of codes rule) t))

  abbrev end : List ℕ
  end = joined (drop 9 (fields page q (code_of codes rule) t))

  known_front : every unchanged front ≡ true
  known_front =
      every_both unchanged (in_q Q6 q) _ (digits_carried (in_q Q6 q) date)
      (every_both unchanged (zeros 3 ++ in_q Q7 q) _ (digits_carried (zeros 3 ++ in_q Q7 q) number) (every_both unchanged (amount_of t) [] (digits_carried (amount_of t) amount) refl))

  known_end : every unchanged end ≡ true
  known_end = every_both unchanged (reference_of page t) (spaces 27) (every_replaced page (part (line_of (t_place T15) 1) t)) refl

  parts : m8_of page q (code_of codes rule) t ≡ front ++ (code_of codes rule ++ end)
  unfolding m8_of
  parts = joined_append (take 8 (fields page q (code_of codes rule) t)) (drop 8 (fields page q (code_of codes rule) t))

  end_long : length end ≡ 62
  end_long = omega (arith, length-append (reference_of page t) (spaces 27), reference_long page t lt)

  front_long : length front ≡ 56
  front_long =
      omega (arith, ap length (sym (is ∙ parts)) ∙ of.whole, length-append front (code_of codes rule ++ end), length-append (code_of codes rule) end, end_long, lc)

  before_is : part (0 to 55) m8 ≡ front
  unfolding part
  before_is = ap (take 56) (is ∙ parts) ∙ take_at front (code_of codes rule ++ end) 56 front_long

  behind_is : part (62 to 123) m8 ≡ end
  unfolding part
  behind_is =
      let far : length (front ++ code_of codes rule) ≡ 62 = omega (arith, length-append front (code_of codes rule), front_long, lc) in
      ap (λ (l : List ℕ). take 62 (drop 62 l)) (is ∙ parts ∙ sym (append_assoc front (code_of codes rule) end))
      ∙ ap (take 62) (drop_at (front ++ code_of codes rule) end 62 far) ∙ take_all 62 end (omega (arith, end_long))

  whole : every unchanged codes ≡ true → every unchanged (m8_of page q (code_of codes rule) t) ≡ true
  whole known =
      ap (every unchanged) parts
      ∙ every_both unchanged front (code_of codes rule ++ end) known_front
      (every_both unchanged (code_of codes rule) end (every_parted unchanged 6 (drop (6 * (rule - 20)) codes) (every_parted unchanged (6 * (rule - 20)) codes known).1).0 known_end)

  amount_is : part (38 to 55) m8 ≡ amount_of t
  unfolding part
  amount_is = of.dm8_8

  pub carried : Carried codes m8
  carried =
      record {
        date = ap (all_of Digit) of.dm8_3 ∙ date;
        number = ap (all_of Digit) of.dm8_4 ∙ number;
        amount = ap (all_of Digit) amount_is ∙ amount;
        reference = ap (every unchanged) of.dm8_10 ∙ every_replaced page (take 35 (in_t T15 t));
        before = ap (every unchanged) before_is ∙ known_front;
        behind = ap (every unchanged) behind_is ∙ known_end;
        all = λ known. ap (every unchanged) is ∙ whole known;
      }
