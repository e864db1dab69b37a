-- Document 01, the sums over the T records: whole euros of T14a, and cents, "first two digits of T14b, added, not carried
-- into euros" (RULES 9.2).
-- And a file's number, "the 18 digits of Q4, Q6, Q7 as one whole number" (RULES 5.6).
use Rattle.std.specs.Prelude.{ℕ, zero, suc, ◌+◌, ◌*◌, ◌^◌, ◌≤◌, ◌<◌, ◌≡◌, List, [], ◌∷◌, ◌++◌, length}
use Rattle.std.proofs.Common.{sym, ◌∙◌, pow-suc, add-one, arith, length-append}
use Rattle.std.proofs.Math.Nat.{pow-zero}
use Rattle.laws.specs.Steps.{fold}
use Rattle.records.specs.Places.{◌to◌, part}
use Rattle.records.specs.Inside.{part_le}
use Rattle.records.specs.declared.TField.TheVariants.{T14a, T14b}
use Rattle.records.specs.declared.QField.TheVariants.{Q4, Q6, Q7}
use Rattle.fields.specs.Number.{digit_of, dec}
use Rattle.fields.specs.Laws.{dec_lt}
use Rattle.rules.specs.Q.{in_q}
use Rattle.payments.specs.Rules.{in_t}
use Rattle.structure.specs.Slots.{slot_at}

-- the sum of f over records 1 to n
abbrev pub total : (ℕ → ℕ) → ℕ → ℕ
total f zero = 0
total f (suc n) = total f n + f (suc n)

abbrev pub euros : List ℕ → ℕ
euros rec = dec (in_t T14a rec)

abbrev pub cents : List ℕ → ℕ
cents rec = dec (part (0 to 1) (in_t T14b rec))

unfoldable pub euro_sum : List ℕ → ℕ → ℕ
euro_sum file n = total (λ (k : ℕ). euros (slot_at file k)) n

unfoldable pub cent_sum : List ℕ → ℕ → ℕ
cent_sum file n = total (λ (k : ℕ). cents (slot_at file k)) n

unfoldable pub file_number : List ℕ → ℕ
file_number q = dec (in_q Q4 q ++ (in_q Q6 q ++ in_q Q7 q))

-- each below m: the sum is at most n * m
pub total_le : (f : ℕ → ℕ) (m n : ℕ) → ((k : ℕ) → f k ≤ m) → total f n ≤ n * m
total_le f m zero h = omega arith
total_le f m (suc n) h = omega (arith, total_le f m n h, h (suc n))

pub total_suc : (f : ℕ → ℕ) (n : ℕ) → total f (n + 1) ≡ total f n + f (n + 1)
total_suc f n = rw (add-one n)

-- digits after digits
dec_from : (s : List ℕ) (v : ℕ) → fold (λ (v b : ℕ). v * 10 + digit_of b) v s ≡ v * 10 ^ length s + dec s
unfolding dec
dec_from [] v = rw (pow-zero 10) (omega arith)
dec_from (x ∷ s) v =
    dec_from s (v * 10 + digit_of x)
    ∙ rw (pow-suc 10 (length s), dec_from s (0 * 10 + digit_of x)) (omega arith)

pub dec_append : (s t : List ℕ) → dec (s ++ t) ≡ dec s * 10 ^ length t + dec t
unfolding dec
dec_append s t = go s 0
  where
    go : (s : List ℕ) (v : ℕ) → fold (λ (v b : ℕ). v * 10 + digit_of b) v (s ++ t)
        ≡ fold (λ (v b : ℕ). v * 10 + digit_of b) v s * 10 ^ length t + dec t
    go [] v = dec_from t v
    go (x ∷ s) v = go s (v * 10 + digit_of x)

-- a payment's figures have 14 and 2 digits
pub euros_lt : (rec : List ℕ) → euros rec < 100000000000000
euros_lt rec = dec_lt (in_t T14a rec) 14 (part_le _ rec)

pub cents_lt : (rec : List ℕ) → cents rec < 100
cents_lt rec = dec_lt (part (0 to 1) (in_t T14b rec)) 2 (part_le _ (in_t T14b rec))

module _ (file : List ℕ) (n : ℕ) where
  pub euro_more : euro_sum file (n + 1) ≡ euro_sum file n + euros (slot_at file (n + 1))
  unfolding euro_sum
  euro_more = total_suc (λ (k : ℕ). euros (slot_at file k)) n

  pub cent_more : cent_sum file (n + 1) ≡ cent_sum file n + cents (slot_at file (n + 1))
  unfolding cent_sum
  cent_more = total_suc (λ (k : ℕ). cents (slot_at file k)) n

  pub euro_le : euro_sum file n ≤ n * 100000000000000
  unfolding euro_sum
  euro_le = total_le (λ (k : ℕ). euros (slot_at file k)) 100000000000000 n (λ k. omega (arith, euros_lt (slot_at file k)))

  pub cent_le : cent_sum file n ≤ n * 100
  unfolding cent_sum
  cent_le = total_le (λ (k : ℕ). cents (slot_at file k)) 100 n (λ k. omega (arith, cents_lt (slot_at file k)))

pub ruleset summing = (euro_more, cent_more, euro_le, cent_le, euros_lt, cents_lt)

-- the file's number from its three parts
pub number_is : (a b c : List ℕ) → length b ≡ 6 → length c ≡ 2 → dec a * 100000000 + dec b * 100 + dec c ≡ dec (a ++ (b ++ c))
number_is a b c p q =
    sym
    (dec_append a (b ++ c)
    ∙ rw (dec_append b c, length-append b c, p, q) (omega arith))
