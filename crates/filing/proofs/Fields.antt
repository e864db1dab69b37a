-- A record's fields at the places of table 15, and what each holds.
use Prim.Native.Nat.{ℕ, zero, suc, ◌+◌, ◌*◌, ◌<◌}
use mathlib.Core.Path.{◌≡◌, refl, sym, ap, ap₂, ◌∙◌}
use mathlib.Core.List.{List, [], ◌∷◌, ◌++◌, map, append_assoc}
use native.Mathlib.Omega.{arith}
use lib.ListN.{length, get_or, take, drop}
use lib.Seq.{take-append_seam, drop-append-add, take-take, take_at, drop_at}
use Rattle.laws.specs.Sums.{sum_of}
use Rattle.charset.specs.Table.{text}
use Rattle.records.specs.Places.{part}
use Rattle.judge.specs.Records.{joined}
use Rattle.m8.specs.Record.{fields, m8_of, formats, code_of}
use Rattle.m8.proofs.Writing.{fields_long, m8_long}
use Rattle.m8.specs.Course.{code_long}
use Rattle.filing.specs.Filing.{OfPayment, m8s}

-- where piece i begins, by the lengths of those before it
abbrev begins : ℕ → List ℕ → ℕ
begins zero ns = 0
begins (suc i) [] = 0
begins (suc i) (n ∷ ns) = n + begins i ns

-- piece i of some that are joined
piece : (xs : List (List ℕ)) (i : ℕ) → take (get_or (map length xs) i 0) (drop (begins i (map length xs)) (joined xs)) ≡ get_or xs i []
piece [] i = refl
piece (x ∷ xs) zero = take-append_seam x (joined xs)
piece (x ∷ xs) (suc i) =
    ap (take (get_or (map length xs) i 0)) (drop-append-add x (joined xs) (begins i (map length xs))) ∙ piece xs i

module _ (page : ℕ) (q codes t : List ℕ) (rule : ℕ) (lq : length q ≡ 256) (lt : length t ≡ 768) (lc : length codes ≡ 96) (low : rule < 36) where
  abbrev m8 : List ℕ
  m8 = m8_of page q (code_of codes rule) t

  field : (i : ℕ) → take (get_or formats i 0) (drop (begins i formats) m8) ≡ get_or (fields page q (code_of codes rule) t) i []
  unfolding m8_of
  field i =
      ap (λ (ns : List ℕ). take (get_or ns i 0) (drop (begins i ns) (joined (fields page q (code_of codes rule) t))))
      (sym (fields_long page q (code_of codes rule) t lq lt (code_long codes rule lc low)))
      ∙ piece (fields page q (code_of codes rule) t) i

  pub of_payment : OfPayment page q codes t rule m8
  unfolding part
  of_payment =
      record {
        dm8_1 = field 0;
        dm8_2 = field 1;
        dm8_3 = field 2;
        dm8_4 = field 3;
        dm8_5 = field 4;
        dm8_6 = field 5;
        dm8_7 = field 6;
        dm8_8 = field 7;
        dm8_9 = field 8;
        dm8_10 = field 9 ∙ ap (text page) (sym (take-take 35 140 (drop 475 t) (omega arith)));
        dm8_11 = field 10;
        whole = m8_long page q (code_of codes rule) t lq lt (code_long codes rule lc low);
      }

-- records of 124 bytes one behind the other
module _ (R : List ℕ → List ℕ) where
  pub m8s_are : (ts : List (List ℕ)) (rest : List ℕ) → ((i : ℕ) → i < length ts → length (R (get_or ts i [])) ≡ 124)
      → m8s (length ts) (joined (map R ts) ++ rest) ≡ map R ts
  m8s_are [] rest long = refl
  m8s_are (t ∷ ts) rest long =
      let first : take 124 ((R t ++ joined (map R ts)) ++ rest) ≡ R t =
      ap (take 124) (append_assoc (R t) (joined (map R ts)) rest) ∙ take_at (R t) (joined (map R ts) ++ rest) 124 (long 0 (omega arith)) in
      let others : drop 124 ((R t ++ joined (map R ts)) ++ rest) ≡ joined (map R ts) ++ rest =
      ap (drop 124) (append_assoc (R t) (joined (map R ts)) rest) ∙ drop_at (R t) (joined (map R ts) ++ rest) 124 (long 0 (omega arith)) in
      ap₂ (λ (x : List ℕ) (xs : List (List ℕ)). x ∷ xs) first (ap (m8s (length ts)) others ∙ m8s_are ts rest (λ i l. long (suc i) (omega arith)))

  -- a sum over them
  pub sums_are : (f g : List ℕ → ℕ) (ts : List (List ℕ)) → ((i : ℕ) → i < length ts → f (R (get_or ts i [])) ≡ g (get_or ts i []))
      → sum_of f (map R ts) ≡ sum_of g ts
  sums_are f g [] h = refl
  sums_are f g (t ∷ ts) h = ap₂ ◌+◌ (h 0 (omega arith)) (sums_are f g ts (λ i l. h (suc i) (omega arith)))

-- a sum of amounts in cents
pub sum_cents : (f g : List ℕ → ℕ) (ts : List (List ℕ)) → sum_of (λ (t : List ℕ). 100 * f t + g t) ts ≡ 100 * sum_of f ts + sum_of g ts
sum_cents f g [] = refl
sum_cents f g (t ∷ ts) = omega (arith, sum_cents f g ts)
