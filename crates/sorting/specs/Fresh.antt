-- A Z with fresh Z3 and Z4: its head and its Z5 stay, Z3 and Z4 are the digits, and so it keeps rules 40 to 42. Where Z3 and
-- Z4 had these values, it is the Z that was there.
use Rattle.std.specs.Prelude.{ℕ, ◌+◌, ◌^◌, ◌≤◌, ◌<◌, ◌≡◌, refl, Bool, true, false, cond, eqb, get_or}
use Prim.Native.Char.{code}
use Rattle.std.proofs.Common.{sym, ◌∙◌, arith, eqb-true, eq-eqb, le-leb, length-append, drop_at, drop-drop, take-take, get_or-take, ap, ap₂, List, ◌++◌, append_assoc, length, take, drop, length-drop, take-append-drop, take_at, length-take-le}
use Rattle.laws.specs.Choice.{off_eq}
use Rattle.records.specs.Places.{part}
use Rattle.records.specs.declared.ZField.TheVariants.{Z3, Z4, Z5}
use Rattle.fields.specs.Class.{all_of, same}
use Rattle.fields.specs.Number.{dec}
use Rattle.fields.specs.declared.Class.TheVariants.{Digit, Space}
use Rattle.rules.specs.Z.{in_z, rule40, rule41, rule42}
use Rattle.rules.specs.Faults.{z_fault}
use Rattle.forwarding.specs.Put.{put_put_at}
use Rattle.structure.specs.Walk.{letter_of, digits_of, digits_for, length_for, allowed, fault_in}
use Rattle.structure.specs.Whole.{whole, no_fault}
use Rattle.sorting.specs.Kept.{digits, fresh_z}
use Rattle.sorting.specs.Digits.{digits_length, digits_all, dec_digits, digits_dec}

module _ (z : List ℕ) (n e : ℕ) (l : length z ≡ 256) where
  front : length (take 5 z) ≡ 5
  front = length-take-le 5 z (omega arith)

  both_long : length (digits 15 e ++ digits 15 n) ≡ 30
  both_long = length-append (digits 15 e) (digits 15 n) ∙ ap₂ ◌+◌ (digits_length 15 e) (digits_length 15 n)

  pub fresh_parts : fresh_z z n e ≡ take 5 z ++ (digits 15 e ++ (digits 15 n ++ drop 35 z))
  unfolding fresh_z
  fresh_parts =
      put_put_at 5 15 (digits 15 e) (digits 15 n) z (digits_length 15 e) (omega arith)
      ∙ ap (λ (k : ℕ). take 5 z ++ ((digits 15 e ++ digits 15 n) ++ drop (5 + k) z)) both_long
      ∙ ap (λ (l : List ℕ). take 5 z ++ l) (append_assoc (digits 15 e) (digits 15 n) (drop 35 z))

  past_5 : drop 5 (fresh_z z n e) ≡ digits 15 e ++ (digits 15 n ++ drop 35 z)
  past_5 = ap (drop 5) fresh_parts ∙ drop_at (take 5 z) (digits 15 e ++ (digits 15 n ++ drop 35 z)) 5 front

  past_20 : drop 20 (fresh_z z n e) ≡ digits 15 n ++ drop 35 z
  past_20 =
      sym (drop-drop 15 5 (fresh_z z n e)) ∙ ap (drop 15) past_5
      ∙ drop_at (digits 15 e) (digits 15 n ++ drop 35 z) 15 (digits_length 15 e)

  past_35 : drop 35 (fresh_z z n e) ≡ drop 35 z
  past_35 =
      sym (drop-drop 15 20 (fresh_z z n e)) ∙ ap (drop 15) past_20
      ∙ drop_at (digits 15 n) (drop 35 z) 15 (digits_length 15 n)

  pub fresh_z3 : in_z Z3 (fresh_z z n e) ≡ digits 15 e
  unfolding part
  fresh_z3 = ap (take 15) past_5 ∙ take_at (digits 15 e) (digits 15 n ++ drop 35 z) 15 (digits_length 15 e)

  pub fresh_z4 : in_z Z4 (fresh_z z n e) ≡ digits 15 n
  unfolding part
  fresh_z4 = ap (take 15) past_20 ∙ take_at (digits 15 n) (drop 35 z) 15 (digits_length 15 n)

  pub fresh_z5 : in_z Z5 (fresh_z z n e) ≡ in_z Z5 z
  unfolding part
  fresh_z5 = ap (take 221) past_35

  pub fresh_long : length (fresh_z z n e) ≡ 256
  fresh_long =
      ap length fresh_parts ∙ length-append (take 5 z) (digits 15 e ++ (digits 15 n ++ drop 35 z))
      ∙ omega (arith, front, length-append (digits 15 e) (digits 15 n ++ drop 35 z), length-append (digits 15 n) (drop 35 z), digits_length 15 e, digits_length 15 n, length-drop 35 z)

  -- the length digits and the letter stay
  fresh_head : take 5 (fresh_z z n e) ≡ take 5 z
  fresh_head = ap (take 5) fresh_parts ∙ take_at (take 5 z) (digits 15 e ++ (digits 15 n ++ drop 35 z)) 5 front

  pub fresh_letter : letter_of (fresh_z z n e) ≡ letter_of z
  fresh_letter = sym (get_or-take 5 (fresh_z z n e) 4 0 (omega arith)) ∙ ap (λ (s : List ℕ). get_or s 4 0) fresh_head ∙ get_or-take 5 z 4 0 (omega arith)

  fresh_digits : digits_of (fresh_z z n e) ≡ digits_of z
  fresh_digits = sym (take-take 4 5 (fresh_z z n e) (omega arith)) ∙ ap (take 4) fresh_head ∙ take-take 4 5 z (omega arith)

  -- it is whole wherever a Z may stand
  pub fresh_fits : (k j : ℕ) → fault_in k z ≡ 0 → letter_of z ≡ code "Z" → 2 ≤ j → fault_in j (fresh_z z n e) ≡ 0
  fresh_fits k j h a two =
      let w = whole k z h in
      no_fault j (fresh_z z n e)
      (record {
        here = ap (allowed j) (fresh_letter ∙ a) ∙ sym (off_eq _ (λ (e : j ≡ 0). omega arith) (sym (le-leb 2 j two)));
        digits = ap₂ (λ (s : List ℕ) (letter : ℕ). same s (digits_for letter)) fresh_digits fresh_letter ∙ w.digits;
        long = omega (arith, ap length_for (fresh_letter ∙ a), fresh_long);
        last = λ _. omega (arith, fresh_long);
      })

-- what rules 40 to 42 ask of a Z
pub record ZRight (z : List ℕ) (n e : ℕ) : Type 0 where
  pub z3_digits : all_of Digit (in_z Z3 z) ≡ true
  pub z4_digits : all_of Digit (in_z Z4 z) ≡ true
  pub z5_spaces : all_of Space (in_z Z5 z) ≡ true
  pub counts : dec (in_z Z4 z) ≡ n
  pub sums : dec (in_z Z3 z) ≡ e

pub z_keeps : (z : List ℕ) (n e : ℕ) → ZRight z n e → (rule : ℕ) → z_fault n e z rule ≡ 0
unfolding z_fault rule40 rule41 rule42
z_keeps z n e r rule =
    rw (r.z3_digits, r.z4_digits, r.z5_spaces, eq-eqb (dec (in_z Z4 z)) n r.counts, eq-eqb (dec (in_z Z3 z)) e r.sums)
    (none (eqb rule 40) (eqb rule 41) (eqb rule 42))
  where
    none : (a b c : Bool) → ◌≡◌ {A = ℕ} (cond a 0 (cond b 0 (cond c 0 0))) 0
    none true b c = refl
    none false true c = refl
    none false false true = refl
    none false false false = refl

-- and that it asks no less
pub z_right : (z : List ℕ) (n e : ℕ) → ((rule : ℕ) → 40 ≤ rule → rule < 43 → z_fault n e z rule ≡ 0) → ZRight z n e
unfolding z_fault rule40 rule41 rule42
z_right z n e h =
    let w = all_three (all_of Digit (in_z Z3 z)) (all_of Digit (in_z Z4 z)) (all_of Space (in_z Z5 z)) (h 40 (omega arith) (omega arith)) in
    record {
      z3_digits = w.0;
      z4_digits = w.1;
      z5_spaces = w.2;
      counts = eqb-true (dec (in_z Z4 z)) n (one 20 (eqb (dec (in_z Z4 z)) n) (omega arith) (h 41 (omega arith) (omega arith)));
      sums = eqb-true (dec (in_z Z3 z)) e (one 5 (eqb (dec (in_z Z3 z)) e) (omega arith) (h 42 (omega arith) (omega arith)));
    }
  where
    one : (at : ℕ) (t : Bool) → 0 < at → cond t 0 at ≡ 0 → t ≡ true
    one at true p q = refl
    one at false p q = absurd (omega arith)

    all_three : (a b c : Bool) → ◌≡◌ {A = ℕ} (cond a (cond b (cond c 0 35) 20) 5) 0 → (a ≡ true) × (b ≡ true) × (c ≡ true)
    all_three true true true q = (refl, refl, refl)
    all_three true true false q = absurd (omega arith)
    all_three true false c q = absurd (omega arith)
    all_three false b c q = absurd (omega arith)

module _ (z : List ℕ) (n e : ℕ) (l : length z ≡ 256) where
  pub fresh_right : all_of Space (in_z Z5 z) ≡ true → n < 10 ^ 15 → e < 10 ^ 15 → ZRight (fresh_z z n e) n e
  fresh_right spaces few small =
      record {
        z3_digits = ap (all_of Digit) (fresh_z3 z n e l) ∙ digits_all 15 e;
        z4_digits = ap (all_of Digit) (fresh_z4 z n e l) ∙ digits_all 15 n;
        z5_spaces = ap (all_of Space) (fresh_z5 z n e l) ∙ spaces;
        counts = ap dec (fresh_z4 z n e l) ∙ dec_digits 15 n few;
        sums = ap dec (fresh_z3 z n e l) ∙ dec_digits 15 e small;
      }

  -- a Z that is right is fresh already
  pub fresh_same : ZRight z n e → fresh_z z n e ≡ z
  unfolding part
  fresh_same r =
      let wide : length (in_z Z3 z) ≡ 15 = length-take-le 15 (drop 5 z) (omega (arith, length-drop 5 z)) in
      let wide' : length (in_z Z4 z) ≡ 15 = length-take-le 15 (drop 20 z) (omega (arith, length-drop 20 z)) in
      let three : digits 15 e ≡ in_z Z3 z = ap (digits 15) (sym r.sums) ∙ digits_dec 15 (in_z Z3 z) wide r.z3_digits in
      let four : digits 15 n ≡ in_z Z4 z = ap (digits 15) (sym r.counts) ∙ digits_dec 15 (in_z Z4 z) wide' r.z4_digits in
      fresh_parts z n e l
      ∙ ap₂ (λ (xs ys : List ℕ). take 5 z ++ (xs ++ (ys ++ drop 35 z))) three four
      ∙ ap (λ (xs : List ℕ). take 5 z ++ (in_z Z3 z ++ xs)) (ap (λ (xs : List ℕ). in_z Z4 z ++ xs) (sym (drop-drop 15 20 z)) ∙ take-append-drop 15 (drop 20 z))
      ∙ ap (λ (xs : List ℕ). take 5 z ++ xs) (ap (λ (xs : List ℕ). in_z Z3 z ++ xs) (sym (drop-drop 15 5 z)) ∙ take-append-drop 15 (drop 5 z))
      ∙ take-append-drop 5 z
