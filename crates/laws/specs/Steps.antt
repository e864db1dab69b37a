-- A loop over a list from the front: what is left at place i is the element there and what is left at i + 1, or nothing.
-- A loop that carries a value along is `fold`; its invariant is that folding what is left gives what folding all gives.
use Rattle.std.specs.Prelude.{ℕ, suc, ◌+◌, ◌<◌, ◌≤◌, ◌≡◌, refl, List, [], ◌∷◌, ◌++◌, map, length, get_or, take, drop, set}
use Rattle.std.proofs.Common.{sym, ap, ◌∙◌, append-nil, add-one, arith, drop_of_length-le, drop-cons, take-suc-set, drop-set-lt, take_all}
use Rattle.std.proofs.Math.Seq.{append_snoc}

pub next : {A : Type 0} (s : List A) (i : ℕ) (d : A) → i < length s → drop i s ≡ get_or s i d ∷ drop (i + 1) s
next s i d h = rw add-one (drop-cons s i d h)

pub over : {A : Type 0} (s : List A) (i : ℕ) → length s ≤ i → drop i s ≡ []
over s i h = drop_of_length-le s h

pub empty : {A : Type 0} (s : List A) → length s ≡ 0 → s ≡ []
empty [] e = refl
empty (x ∷ s) e = absurd (omega arith)

-- two at a time
pub next_two : (s : List ℕ) (i : ℕ) → i + 1 < length s → drop i s ≡ get_or s i 0 ∷ get_or s (i + 1) 0 ∷ drop (i + 2) s
next_two s i h =
    let e : i + 1 + 1 ≡ i + 2 = omega arith in
    next s i 0 (omega arith)
    ∙ ap (λ (l : List ℕ). get_or s i 0 ∷ l) (next s (i + 1) 0 h ∙ ap (λ (k : ℕ). get_or s (i + 1) 0 ∷ drop k s) e)

-- a value carried along
abbrev pub fold : {A B : Type 0} → (A → B → A) → A → List B → A
fold f a [] = a
fold f a (x ∷ s) = fold f (f a x) s

module _ {A : Type 0} (f : A → ℕ → A) (a whole : A) (s : List ℕ) (i : ℕ) where
  pub fold_on : i < length s → fold f a (drop i s) ≡ whole → fold f (f a (get_or s i 0)) (drop (i + 1) s) ≡ whole
  fold_on h e = sym (ap (fold f a) (next s i 0 h)) ∙ e

  pub fold_over : length s ≤ i → fold f a (drop i s) ≡ whole → a ≡ whole
  fold_over h e = sym (ap (fold f a) (over s i h)) ∙ e

-- f put in place, one element a turn
pub mapped : (f : ℕ → ℕ) (s : List ℕ) (i : ℕ) → i < length s
    → take (i + 1) (set s i (f (get_or s i 0))) ++ map f (drop (i + 1) (set s i (f (get_or s i 0)))) ≡ take i s ++ map f (drop i s)
mapped f s i h =
    let up : i < suc i = omega arith in
    rw (add-one, take-suc-set, drop-set-lt (suc i) s i, drop-cons s i 0)
    (append_snoc (take i s) (f (get_or s i 0)) (map f (drop (suc i) s)))

pub mapped_all : (f : ℕ → ℕ) (s : List ℕ) (i : ℕ) → length s ≤ i → take i s ++ map f (drop i s) ≡ s
mapped_all f s i h = rw (over s i h, append-nil, take_all i s h)
