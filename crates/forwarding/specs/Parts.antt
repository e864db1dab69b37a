-- Forwarded bytes and notes in parts: of one list behind another, where no place is text, where every place is, by places
-- that agree, and counted from another place. The table r and the text places t are any.
use Rattle.std.specs.Prelude.{ℕ, suc, ◌+◌, ◌*◌, ◌-◌, ◌<◌, ◌≤◌, ◌≡◌, refl, Bool, true, false, ◌||◌, cond, List, [], ◌∷◌, ◌++◌, map, length}
use Rattle.std.proofs.Common.{ap, ap₂, ◌∙◌, arith}
use Rattle.charset.specs.Table.{OwnReplacement}
use Rattle.forwarding.specs.Forwarded.{fwd, notes, differs}

abbrev pub never : ℕ → Bool
never i = false

abbrev pub always : ℕ → Bool
always i = true

-- the n places from i on are text by t where they are by u
abbrev pub Agree : (ℕ → Bool) → (ℕ → Bool) → ℕ → ℕ → Type 0
Agree t u i n = (k : ℕ) → i ≤ k → k < i + n → t k ≡ u k

later : {t u : ℕ → Bool} (i n : ℕ) → Agree t u i (suc n) → Agree t u (suc i) n
later i n h k p q = h k (omega arith) (omega arith)

module _ (r : ℕ → ℕ) where
  pub fwd_never : (i : ℕ) (xs : List ℕ) → fwd r never i xs ≡ xs
  fwd_never i [] = refl
  fwd_never i (x ∷ xs) = ap (λ (l : List ℕ). x ∷ l) (fwd_never (suc i) xs)

  pub notes_never : (i : ℕ) (xs : List ℕ) → notes r never i xs ≡ []
  notes_never i [] = refl
  notes_never i (x ∷ xs) = notes_never (suc i) xs

  pub fwd_always : (i : ℕ) (xs : List ℕ) → fwd r always i xs ≡ map r xs
  fwd_always i [] = refl
  fwd_always i (x ∷ xs) = ap (λ (l : List ℕ). r x ∷ l) (fwd_always (suc i) xs)

module _ (r : ℕ → ℕ) (t : ℕ → Bool) where
  pub fwd_length : (i : ℕ) (xs : List ℕ) → length (fwd r t i xs) ≡ length xs
  fwd_length i [] = refl
  fwd_length i (x ∷ xs) = ap suc (fwd_length (suc i) xs)

  pub fwd_append : (i : ℕ) (xs ys : List ℕ) → fwd r t i (xs ++ ys) ≡ fwd r t i xs ++ fwd r t (i + length xs) ys
  fwd_append i [] ys = ap (λ (k : ℕ). fwd r t k ys) (omega arith)
  fwd_append i (x ∷ xs) ys =
      ap (λ (l : List ℕ). cond (t i) (r x) x ∷ l)
      (fwd_append (suc i) xs ys ∙ ap (λ (k : ℕ). fwd r t (suc i) xs ++ fwd r t k ys) (omega arith))

  pub notes_append : (i : ℕ) (xs ys : List ℕ) → notes r t i (xs ++ ys) ≡ notes r t i xs ++ notes r t (i + length xs) ys
  notes_append i [] ys = ap (λ (k : ℕ). notes r t k ys) (omega arith)
  notes_append i (x ∷ xs) ys =
      let z : suc i + length xs ≡ i + suc (length xs) = omega arith in
      go (differs r t i x) (notes r t (suc i) xs) (notes r t (i + suc (length xs)) ys) (rw z at (notes_append (suc i) xs ys))
    where
      go : (d : Bool) (front back : List ℕ) {all : List ℕ} → all ≡ front ++ back
          → cond d ((i * 256 + x) ∷ all) all ≡ cond d ((i * 256 + x) ∷ front) front ++ back
      go true front back h = ap (λ (l : List ℕ). (i * 256 + x) ∷ l) h
      go false front back h = h

  -- there are no more notes than bytes
  pub notes_few : (i : ℕ) (xs : List ℕ) → length (notes r t i xs) ≤ length xs
  notes_few i [] = omega arith
  notes_few i (x ∷ xs) = go (differs r t i x) (notes r t (suc i) xs) (notes_few (suc i) xs)
    where
      go : (d : Bool) (rest : List ℕ) → length rest ≤ length xs → length (cond d ((i * 256 + x) ∷ rest) rest) ≤ suc (length xs)
      go true rest h = omega arith
      go false rest h = omega arith

  module _ (u : ℕ → Bool) where
    pub fwd_same : (i : ℕ) (xs : List ℕ) → Agree t u i (length xs) → fwd r t i xs ≡ fwd r u i xs
    fwd_same i [] h = refl
    fwd_same i (x ∷ xs) h = rw (h i (omega arith) (omega arith), fwd_same (suc i) xs (later i (length xs) h))

    pub notes_same : (i : ℕ) (xs : List ℕ) → Agree t u i (length xs) → notes r t i xs ≡ notes r u i xs
    notes_same i [] h = refl
    notes_same i (x ∷ xs) h = rw (h i (omega arith) (omega arith), notes_same (suc i) xs (later i (length xs) h))

  -- the places counted from a on
  pub fwd_from : (a i : ℕ) (xs : List ℕ) → fwd r (λ k. t (k - a)) (a + i) xs ≡ fwd r t i xs
  fwd_from a i [] = refl
  fwd_from a i (x ∷ xs) =
      let here : a + i - a ≡ i = omega arith in
      let next : suc (a + i) ≡ a + suc i = omega arith in
      ap₂ ◌∷◌ (ap (λ (k : ℕ). cond (t k) (r x) x) here) (ap (λ (k : ℕ). fwd r (λ n. t (n - a)) k xs) next ∙ fwd_from a (suc i) xs)

-- a table whose characters are their own replacements, put to use twice
module _ (r : ℕ → ℕ) (twice : OwnReplacement r) (t u : ℕ → Bool) where
  pub fwd_fwd : (i : ℕ) (xs : List ℕ) → fwd r u i (fwd r t i xs) ≡ fwd r (λ k. t k || u k) i xs
  fwd_fwd i [] = refl
  fwd_fwd i (x ∷ xs) = ap₂ ◌∷◌ (go (t i) (u i)) (fwd_fwd (suc i) xs)
    where
      go : (a b : Bool) → cond b (r (cond a (r x) x)) (cond a (r x) x) ≡ cond (a || b) (r x) x
      go true true = twice x
      go true false = refl
      go false true = refl
      go false false = refl
