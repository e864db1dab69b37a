-- A number written in digits: so many bytes, all digits, and read again it is the number; and digits that were read are
-- written again as they were.
use Rattle.std.specs.Prelude.{ℕ, zero, suc, ◌+◌, ◌*◌, ◌^◌, ◌-◌, ◌/◌, ◌%◌, ◌<◌, ◌≡◌, refl, Bool, true, ◌&&◌, cond, List, [], ◌∷◌, ◌++◌, leb, length, take, get_or}
use Prim.Native.Char.{code}
use Rattle.std.proofs.Common.{sym, ap, ap₂, ◌∙◌, pow-suc, arith, le-leb, leb-true, length-append, take-suc, take_all, length-take-le}
use Rattle.std.proofs.Math.Bool.{and-true}
use Rattle.std.proofs.Math.Nat.{pow-zero}
use Rattle.laws.specs.Choice.{both}
use Rattle.fields.specs.Class.{member, all_of}
use Rattle.fields.specs.Number.{digit_of, dec}
use Rattle.fields.specs.Laws.{every_append, digit_lt}
use Rattle.fields.specs.declared.Class.TheVariants.{Digit}
use Rattle.judge.specs.Sums.{dec_append}
use Rattle.sorting.specs.Kept.{digits}

is_digit : (d : ℕ) → d < 10 → member Digit (48 + d) ≡ true
is_digit d h = ap₂ ◌&&◌ (le-leb 48 (48 + d) (omega arith)) (le-leb (48 + d) 57 (omega arith))

digit_is : (d : ℕ) → d < 10 → digit_of (48 + d) ≡ d
digit_is d h =
    let e : 48 + d - 48 ≡ d = omega arith in
    ap (λ (b : Bool). cond b (48 + d - 48) 0) (is_digit d h) ∙ e

-- a digit is its value above "0"
digit_back : (b : ℕ) → member Digit b ≡ true → 48 + digit_of b ≡ b
digit_back b e =
    let w = both (leb 48 b) (leb b 57) e in
    ap (λ (t : Bool). 48 + cond t (b - 48) 0) e ∙ omega (arith, leb-true 48 b w.0)

all_append : (s t : List ℕ) → all_of Digit (s ++ t) ≡ all_of Digit s && all_of Digit t
unfolding all_of
all_append s t = every_append (member Digit) s t

all_one : (b : ℕ) → all_of Digit (b ∷ []) ≡ member Digit b
unfolding all_of
all_one b = and-true (member Digit b)

dec_one : (b : ℕ) → dec (b ∷ []) ≡ digit_of b
unfolding dec
dec_one b = omega arith

-- one digit more behind others
dec_more : (s : List ℕ) (b : ℕ) → dec (s ++ (b ∷ [])) ≡ dec s * 10 + digit_of b
dec_more s b =
    dec_append s (b ∷ []) ∙ ap (λ (d : ℕ). dec s * 10 + d) (dec_one b)

pub digits_length : (w n : ℕ) → length (digits w n) ≡ w
digits_length zero n = refl
digits_length (suc w) n = length-append (digits w (n / 10)) ((code "0" + n % 10) ∷ []) ∙ omega (arith, digits_length w (n / 10))

pub digits_all : (w n : ℕ) → all_of Digit (digits w n) ≡ true
unfolding all_of
digits_all zero n = refl
digits_all (suc w) n =
    all_append (digits w (n / 10)) ((code "0" + n % 10) ∷ [])
    ∙ ap₂ ◌&&◌ (digits_all w (n / 10)) (all_one (code "0" + n % 10) ∙ is_digit (n % 10) (omega arith))

-- what is written is read again
pub dec_digits : (w n : ℕ) → n < 10 ^ w → dec (digits w n) ≡ n
unfolding dec
dec_digits zero n h = omega (arith, pow-zero 10)
dec_digits (suc w) n h =
    dec_more (digits w (n / 10)) (code "0" + n % 10)
    ∙ ap₂ (λ (v d : ℕ). v * 10 + d) (dec_digits w (n / 10) (omega (arith, pow-suc 10 w))) (digit_is (n % 10) (omega arith))
    ∙ omega arith

-- and what was read is written again
pub digits_dec : (w : ℕ) (s : List ℕ) → length s ≡ w → all_of Digit s ≡ true → digits w (dec s) ≡ s
digits_dec zero [] l h = refl
digits_dec zero (x ∷ s) l h = absurd (omega arith)
digits_dec (suc w) s l h =
    let b = get_or s w 0 in
    let split : s ≡ take w s ++ (b ∷ []) = sym (take_all (suc w) s (omega arith)) ∙ take-suc s w 0 (omega arith) in
    let front : length (take w s) ≡ w = length-take-le w s (omega arith) in
    let value : dec s ≡ dec (take w s) * 10 + digit_of b = ap dec split ∙ dec_more (take w s) b in
    let w' = both (all_of Digit (take w s)) (all_of Digit (b ∷ [])) (sym (all_append (take w s) (b ∷ [])) ∙ ap (all_of Digit) (sym split) ∙ h) in
    let quotient : dec s / 10 ≡ dec (take w s) = omega (arith, value, digit_lt b) in
    let remainder : dec s % 10 ≡ digit_of b = omega (arith, value, digit_lt b) in
    ap₂ (λ (q r : ℕ). digits w q ++ ((code "0" + r) ∷ [])) quotient remainder
    ∙ ap₂ (λ (xs : List ℕ) (x : ℕ). xs ++ (x ∷ [])) (digits_dec w (take w s) front w'.0) (digit_back b (sym (all_one b) ∙ w'.1))
    ∙ sym split
