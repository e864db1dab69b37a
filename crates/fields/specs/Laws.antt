-- The tests and the value of a list as loops carry them along and as the library has them, and the bound of a value.
use Rattle.std.specs.Prelude.{ℕ, zero, suc, ◌+◌, ◌*◌, ◌/◌, ◌^◌, ◌-◌, ◌<◌, ◌≤◌, ◌≡◌, refl, Bool, true, false, ◌&&◌, ◌||◌, cond, List, [], ◌∷◌, ◌++◌, eqb, leb, length, take, drop, get_or}
use Prim.Native.Char.{code}
use Rattle.std.specs.List.{list_all, list_any}
use Rattle.std.specs.Simd.{first_chunks}
use Rattle.std.proofs.Common.{sym, ap, ap₂, ◌∙◌, pow-suc, add-one, arith, leb-true, eqb-true, eq-eqb, ne_eqb, lit<, length-drop, drop-drop}
use Rattle.std.proofs.Math.Bool.{and-true, or-false, and_assoc, or_assoc, and-false, or-true}
use Rattle.std.proofs.Math.Seq.{take-suc}
use Rattle.std.proofs.lemmas.Bool.{false≢true, eqb-false}
use Rattle.std.proofs.lemmas.List.{length-take}
use Rattle.std.proofs.Math.Nat.{pow-le-pow_right}
use Rattle.laws.specs.Ascii.{ascii}
use Rattle.laws.specs.Choice.{both}
use Rattle.laws.specs.Steps.{fold, next, next_two}
use Rattle.fields.specs.Class.{member, every, all_of, blank, same}
use Rattle.fields.specs.declared.Class.{Class}
use Rattle.fields.specs.declared.Class.TheVariants.{Digit, Zero, Space, Capital, CapitalOrDigit}
use Rattle.charset.specs.Table.{within, among, unchanged, rep, text, unchanged_rep}
use Rattle.fields.specs.Number.{digit_of, dec}
use Rattle.fields.specs.Lists.{some, countries, is_listed}

-- the library's words for the two tests of a list
pub every_is : {A : Type 0} (test : A → Bool) (s : List A) → every test s ≡ list_all test s
every_is test [] = refl
every_is test (x ∷ s) = ap (λ (b : Bool). test x && b) (every_is test s)

pub some_is : {A : Type 0} (test : A → Bool) (s : List A) → some test s ≡ list_any test s
some_is test [] = refl
some_is test (x ∷ s) = ap (λ (b : Bool). test x || b) (some_is test s)

pub every_fold : {A : Type 0} (test : A → Bool) (a : Bool) (s : List A) → fold (λ (t : Bool) (x : A). t && test x) a s ≡ a && every test s
every_fold test a [] = sym (and-true a)
every_fold test a (x ∷ s) = every_fold test (a && test x) s ∙ and_assoc a (test x) (every test s)

pub every_append : {A : Type 0} (test : A → Bool) (s t : List A) → every test (s ++ t) ≡ every test s && every test t
every_append test [] t = refl
every_append test (x ∷ s) t = ap (λ (b : Bool). test x && b) (every_append test s t) ∙ sym (and_assoc (test x) (every test s) (every test t))

pub some_fold : {A : Type 0} (test : A → Bool) (a : Bool) (s : List A) → fold (λ (t : Bool) (x : A). t || test x) a s ≡ a || some test s
some_fold test a [] = sym (or-false a)
some_fold test a (x ∷ s) = some_fold test (a || test x) s ∙ or_assoc a (test x) (some test s)

pub some_append : {A : Type 0} (test : A → Bool) (s t : List A) → some test (s ++ t) ≡ some test s || some test t
some_append test [] t = refl
some_append test (x ∷ s) t = ap (λ (u : Bool). test x || u) (some_append test s t) ∙ sym (or_assoc (test x) (some test s) (some test t))

-- what is of a class is unchanged, and so it is of the class when it is replaced: a byte, and a list of them
first_or_third : (x y z w : Bool) → x || z ≡ true → x || y || z || w ≡ true
first_or_third true y z w e = refl
first_or_third false true z w e = refl
first_or_third false false true w e = refl
first_or_third false false false w e = absurd (false≢true e)

alphanumeric : (b : ℕ) → member CapitalOrDigit b ≡ true → unchanged b ≡ true
alphanumeric b e =
    first_or_third (within (code "A") (code "Z") b) (within (code "a") (code "z") b) (within (code "0") (code "9") b) (among (ascii " .,-/+%") b) e

pub member_unchanged : (c : Class) (b : ℕ) → member c b ≡ true → unchanged b ≡ true
member_unchanged Digit b e = alphanumeric b (ap (λ (t : Bool). member Capital b || t) e ∙ or-true (member Capital b))
member_unchanged Zero b e = ap unchanged (eqb-true b (code "0") e)
member_unchanged Space b e = ap unchanged (eqb-true b (code " ") e)
member_unchanged Capital b e = alphanumeric b (ap (λ (t : Bool). t || member Digit b) e)
member_unchanged CapitalOrDigit b e = alphanumeric b e

-- an unchanged character is of a class when it is replaced where it is so as it stands
pub member_kept : (page : ℕ) (c : Class) (b : ℕ) → unchanged b ≡ true → member c (rep page b) ≡ member c b
member_kept page c b e = ap (member c) (unchanged_rep page b e)

pub member_rep : (page : ℕ) (c : Class) (b : ℕ) → member c b ≡ true → member c (rep page b) ≡ true
member_rep page c b e = member_kept page c b (member_unchanged c b e) ∙ e

pub all_rep : (page : ℕ) (c : Class) (s : List ℕ) → all_of c s ≡ true → all_of c (text page s) ≡ true
unfolding all_of
all_rep page c [] e = refl
all_rep page c (x ∷ s) e =
    let p = both (member c x) (every (member c) s) e in
    rw (member_rep page c x p.0) (all_rep page c s p.1)

-- a turn over text: t is the answer of the test of the replaced character
pub text_turn : (page : ℕ) (c : Class) (s : List ℕ) (i : ℕ) (whole t : Bool) → i < length s
    → all_of c (text page (drop i s)) ≡ whole → t ≡ member c (rep page (get_or s i 0))
    → t && all_of c (text page (drop (i + 1) s)) ≡ whole
unfolding all_of
text_turn page c s i whole t h e q = rw q (rw (next s i 0 h) at e)

-- and of bytes as they stand
pub bytes_turn : (c : Class) (s : List ℕ) (i : ℕ) (whole t : Bool) → i < length s → all_of c (drop i s) ≡ whole
    → t ≡ member c (get_or s i 0) → t && all_of c (drop (i + 1) s) ≡ whole
unfolding all_of
bytes_turn c s i whole t h e q = rw q (rw (next s i 0 h) at e)

-- one character of a text
pub blank_one : (page : ℕ) (s : List ℕ) (i : ℕ) → i < length s → blank page (take 1 (drop i s)) ≡ eqb (rep page (get_or s i 0)) (code " ")
unfolding blank all_of
blank_one page s i h = rw (next s i 0 h) (and-true _)

-- a list's countries from place i on
pub countries_next : (s : List ℕ) (i : ℕ) → i + 1 < length s
    → countries (drop i s) ≡ (get_or s i 0, get_or s (i + 1) 0) ∷ countries (drop (i + 2) s)
countries_next s i h = ap countries (next_two s i h)

lone : (s : List ℕ) → length s ≤ 1 → countries s ≡ []
lone [] h = refl
lone (x ∷ []) h = refl
lone (x ∷ (y ∷ s)) h = absurd (omega arith)

pub countries_over : (s : List ℕ) (i : ℕ) → length s - i ≤ 1 → countries (drop i s) ≡ []
countries_over s i h = lone (drop i s) (simp length-drop h)

-- a list splits at place n where its countries are those before n and those from n on: it does at 0, and with n at n + 2
abbrev Splits : ℕ → Type 0
Splits n = (s : List ℕ) → countries s ≡ countries (take n s) ++ countries (drop n s)

two_more : (n : ℕ) → Splits n → Splits (suc (suc n))
two_more n h [] = refl
two_more n h (x ∷ []) = refl
two_more n h (x ∷ (y ∷ s)) = ap (λ (l : List (ℕ × ℕ)). (x, y) ∷ l) (h s)

-- a list's countries in fours, whatever its length: from the k-th four on they are those of this four and those behind it
pub countries_fours : (s : List ℕ) (k : ℕ)
    → countries (drop (8 * k) s) ≡ countries (take 8 (drop (8 * k) s)) ++ countries (drop (8 * (k + 1)) s)
countries_fours s k =
    let e : 8 * (k + 1) ≡ 8 * k + 8 = omega arith in
    rw (e, ← drop-drop 8 (8 * k) s) (two_more 6 (two_more 4 (two_more 2 (two_more 0 (λ t. refl)))) (drop (8 * k) s))

-- two pairs of bytes are the same exactly where they are the same number
pub pairs_same : (x y a b : ℕ) → x < 256 → a < 256 → eqb (y * 256 + x) (b * 256 + a) ≡ eqb x a && eqb y b
pairs_same x y a b h k = go (eqb x a) (eqb y b) refl refl
  where
    go : (p q : Bool) → eqb x a ≡ p → eqb y b ≡ q → eqb (y * 256 + x) (b * 256 + a) ≡ p && q
    go true true e f = eq-eqb (y * 256 + x) (b * 256 + a) (omega (arith, eqb-true x a e, eqb-true y b f))
    go true false e f = ne_eqb (y * 256 + x) (b * 256 + a) (λ z. eqb-false y b f (omega arith))
    go false q e f = ne_eqb (y * 256 + x) (b * 256 + a) (λ z. eqb-false x a e (omega arith))

-- the countries of a list are its pairs of bytes
abbrev pub is_pair : ℕ → ℕ → List ℕ → Bool
is_pair a b pair = eqb (get_or pair 0 0) a && eqb (get_or pair 1 0) b

pub in_pairs : (s : List ℕ) (a b : ℕ) → list_any (is_pair a b) (first_chunks 2 (length s / 2) s) ≡ is_listed s a b
unfolding is_listed
in_pairs [] a b = refl
in_pairs (x ∷ []) a b = refl
in_pairs (x ∷ (y ∷ s)) a b =
    let e : suc (suc (length s)) / 2 ≡ suc (length s / 2) = omega arith in
    rw (e, in_pairs s a b) refl

-- the countries of the k-th four, and those behind it
four_turn : (s : List ℕ) (k a b : ℕ)
    → is_listed (take 8 (drop (8 * k) s)) a b || is_listed (drop (8 * (k + 1)) s) a b ≡ is_listed (drop (8 * k) s) a b
unfolding is_listed
four_turn s k a b = rw (← some_append, ← countries_fours s k) refl

-- one four more: it begins at place 8 k
four_suc : (k : ℕ) (s : List ℕ) (a b : ℕ)
    → list_any (λ four. is_listed four a b) (first_chunks 8 (suc k) s)
    ≡ list_any (λ four. is_listed four a b) (first_chunks 8 k s) || is_listed (take 8 (drop (8 * k) s)) a b
four_suc zero s a b = or-false (is_listed (take 8 s) a b)
four_suc (suc k) s a b =
    let e : 8 * suc k ≡ 8 + 8 * k = omega arith in
    rw (four_suc k (drop 8 s) a b, e, ← drop-drop (8 * k) 8 s, or_assoc) refl

pub four_more : (k : ℕ) (s : List ℕ) (a b : ℕ)
    → list_any (λ four. is_listed four a b) (first_chunks 8 (k + 1) s)
    ≡ list_any (λ four. is_listed four a b) (first_chunks 8 k s) || is_listed (take 8 (drop (8 * k) s)) a b
four_more k s a b = rw add-one (four_suc k s a b)

-- and in n fours, and what is behind them
pub in_fours : (n : ℕ) (s : List ℕ) (a b : ℕ)
    → list_any (λ four. is_listed four a b) (first_chunks 8 n s) || is_listed (drop (n * 8) s) a b ≡ is_listed s a b
in_fours zero s a b = refl
in_fours (suc n) s a b =
    let more = rw add-one at (four_more n s a b) in
    let e : suc n * 8 ≡ 8 * (n + 1) = omega arith in
    let f : 8 * n ≡ n * 8 = omega arith in
    rw (more, e, or_assoc, four_turn s n a b, f) (in_fours n s a b)

-- one element more of each
same_suc : (s t : List ℕ) (i : ℕ) → i < length s → i < length t
    → same (take (suc i) s) (take (suc i) t) ≡ same (take i s) (take i t) && eqb (get_or s i 0) (get_or t i 0)
unfolding same
same_suc [] t i h k = absurd (omega arith)
same_suc (x ∷ s) [] i h k = absurd (omega arith)
same_suc (x ∷ s) (y ∷ t) zero h k = and-true (eqb x y)
same_suc (x ∷ s) (y ∷ t) (suc i) h k = rw (same_suc s t i (omega arith) (omega arith)) (sym (and_assoc (eqb x y) _ _))

pub same_more : (s t : List ℕ) (i : ℕ) → i < length s → i < length t
    → same (take (i + 1) s) (take (i + 1) t) ≡ same (take i s) (take i t) && eqb (get_or s i 0) (get_or t i 0)
same_more s t i h k = rw add-one (same_suc s t i h k)

-- lists of different lengths are not the same
pub unlike : (s t : List ℕ) → (length s ≡ length t → ⊥) → same s t ≡ false
unfolding same
unlike [] [] h = absurd (h refl)
unlike [] (y ∷ t) h = refl
unlike (x ∷ s) [] h = refl
unlike (x ∷ s) (y ∷ t) h = rw (unlike s t (λ e. h (ap suc e))) (and-false (eqb x y))

-- lists that are the same
pub same_is : (s t : List ℕ) → same s t ≡ true → s ≡ t
unfolding same
same_is [] [] e = refl
same_is [] (y ∷ t) e = absurd (false≢true e)
same_is (x ∷ s) [] e = absurd (false≢true e)
same_is (x ∷ s) (y ∷ t) e = let w = both (eqb x y) (same s t) e in ap₂ ◌∷◌ (eqb-true x y w.0) (same_is s t w.1)

-- two bytes, one by one
pub same_two : (s : List ℕ) → length s ≡ 2 → (a b : ℕ) → eqb (get_or s 0 0) a && eqb (get_or s 1 0) b ≡ same s (a ∷ b ∷ [])
unfolding same
same_two [] h a b = absurd (omega arith)
same_two (x ∷ []) h a b = absurd (omega arith)
same_two (x ∷ (y ∷ [])) h a b = ap (λ (t : Bool). eqb x a && t) (sym (and-true (eqb y b)))
same_two (x ∷ (y ∷ (z ∷ s))) h a b = absurd (omega arith)

pub digit_lt : (b : ℕ) → digit_of b < 10
digit_lt b = go (leb 48 b) (leb b 57) refl
  where
    go : (low high : Bool) → leb b 57 ≡ high → cond (low && high) (b - 48) 0 < 10
    go true true e = omega (arith, leb-true b 57 e)
    go true false e = lit< tt
    go false high e = lit< tt

pub tens_le : (i n : ℕ) → i ≤ n → 10 ^ i ≤ 10 ^ n
tens_le i n h = pow-le-pow_right {n = 10} (lit< tt) h

-- one digit more
pub digits_more : (v d i : ℕ) → v < 10 ^ i → d < 10 → v * 10 + d < 10 ^ (i + 1)
digits_more v d i h k = rw (add-one i, pow-suc) (omega arith)

fold_lt : (s : List ℕ) (v i : ℕ) → v < 10 ^ i → fold (λ (v b : ℕ). v * 10 + digit_of b) v s < 10 ^ (i + length s)
fold_lt [] v i h =
    let e : i + 0 ≡ i = omega arith in
    rw e h
fold_lt (x ∷ s) v i h =
    let e : i + suc (length s) ≡ i + 1 + length s = omega arith in
    rw e (fold_lt s (v * 10 + digit_of x) (i + 1) (digits_more v (digit_of x) i h (digit_lt x)))

-- n digits write a number below 10 ^ n
pub dec_lt : (s : List ℕ) (n : ℕ) → length s ≤ n → dec s < 10 ^ n
unfolding dec
dec_lt s n h =
    let e : 0 + length s ≡ length s = omega arith in
    omega (arith, rw e at (fold_lt s 0 0 (lit< tt)), tens_le (length s) n h)

-- one digit more, and how large the first of at most 18 are
fold_append : {A B : Type 0} (f : A → B → A) (a : A) (s t : List B) → fold f a (s ++ t) ≡ fold f (fold f a s) t
fold_append f a [] t = refl
fold_append f a (x ∷ s) t = fold_append f (f a x) s t

pub dec_more : (s : List ℕ) (i : ℕ) → i < length s → dec (take (i + 1) s) ≡ dec (take i s) * 10 + digit_of (get_or s i 0)
unfolding dec
dec_more s i h = rw (add-one, take-suc s i 0 h, fold_append) refl

pub dec_room : (s : List ℕ) (i : ℕ) → i < 18 → dec (take i s) < 10 ^ 17
dec_room s i h = omega (arith, dec_lt (take i s) i (omega (arith, length-take i s)), tens_le i 17 (omega arith))
