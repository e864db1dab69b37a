-- The bytes from one place up to below another, as code lends them: `&file[a..e]`.
use Rattle.std.specs.Prelude.{ℕ, ◌+◌, ◌-◌, ◌≤◌, ◌≡◌, List, ◌++◌, length, take, drop}
use Rattle.std.proofs.Common.{sym, ap, ◌∙◌, arith, length-drop, take-append-drop, drop-drop, length-take-le, take-add}

abbrev pub between : ℕ → ℕ → List ℕ → List ℕ
between a e xs = take (e - a) (drop a xs)

module _ (a b : ℕ) (xs : List ℕ) where
  pub between_long : b ≤ length xs → length (between a b xs) ≡ b - a
  between_long h = length-take-le (b - a) (drop a xs) (omega (arith, length-drop a xs))

  module _ (h : a ≤ b) where
    from_b : drop (b - a) (drop a xs) ≡ drop b xs
    from_b =
        let z : a + (b - a) ≡ b = omega arith in
        drop-drop (b - a) a xs ∙ ap (λ (n : ℕ). drop n xs) z

    pub between_rest : drop a xs ≡ between a b xs ++ drop b xs
    between_rest = sym (take-append-drop (b - a) (drop a xs)) ∙ ap (λ (l : List ℕ). between a b xs ++ l) from_b

    pub between_more : (c : ℕ) → b ≤ c → between a c xs ≡ between a b xs ++ between b c xs
    between_more c l =
        let z : c - a ≡ b - a + (c - b) = omega arith in
        ap (λ (n : ℕ). take n (drop a xs)) z ∙ take-add (b - a) (c - b) (drop a xs)
        ∙ ap (λ (l : List ℕ). between a b xs ++ take (c - b) l) from_b
