-- Document 01: "the output begins with the forwarded file and the rest of it keeps its bytes" (RULES 9.4). Writing into
-- lent room: a list over the elements from a place on, and the rest as it was.
use Rattle.std.specs.Prelude.{ℕ, ◌+◌, ◌-◌, ◌≤◌, ◌<◌, ◌≡◌, List, [], ◌∷◌, ◌++◌, length, take, drop, set}
use Rattle.std.proofs.Common.{sym, ap, ◌∙◌, subst, append_assoc, add_assoc, add-zero, add-one, arith, length-append, length-drop, take-append-drop, take_at, drop_at, drop-drop, length-take-le}
use Rattle.std.proofs.lemmas.List.{set_split}

-- xs over the elements of ys from place k on
abbrev pub put : ℕ → List ℕ → List ℕ → List ℕ
put k xs ys = take k ys ++ (xs ++ drop (k + length xs) ys)

module _ (k : ℕ) (xs zs : List ℕ) (fits : k + length xs ≤ length zs) where
  pub put_length : length (put k xs zs) ≡ length zs
  put_length = simp (length-append, length-drop) (omega (arith, length-take-le k zs (omega arith)))

  head : length (take k zs ++ xs) ≡ k + length xs
  head = length-append (take k zs) xs ∙ ap (λ (n : ℕ). n + length xs) (length-take-le k zs (omega arith))

  split : put k xs zs ≡ (take k zs ++ xs) ++ drop (k + length xs) zs
  split = sym (append_assoc (take k zs) xs (drop (k + length xs) zs))

  pub take_put : take (k + length xs) (put k xs zs) ≡ take k zs ++ xs
  take_put = ap (take (k + length xs)) split ∙ take_at (take k zs ++ xs) (drop (k + length xs) zs) (k + length xs) head

  drop_put : (n : ℕ) → drop (k + length xs + n) (put k xs zs) ≡ drop (k + length xs + n) zs
  drop_put n =
      sym (drop-drop n (k + length xs) (put k xs zs))
      ∙ ap (drop n) (ap (drop (k + length xs)) split ∙ drop_at (take k zs ++ xs) (drop (k + length xs) zs) (k + length xs) head)
      ∙ drop-drop n (k + length xs) zs

  -- what is written after what was written
  pub put_put : (ys : List ℕ) → put (k + length xs) ys (put k xs zs) ≡ put k (xs ++ ys) zs
  put_put ys =
      rw (take_put, drop_put (length ys), length-append xs ys, append_assoc, append_assoc, add_assoc k (length xs) (length ys))

pub put_none : (k : ℕ) (zs : List ℕ) → put k [] zs ≡ zs
put_none k zs = rw (add-zero k) (take-append-drop k zs)

-- one element
pub put_one : (k v : ℕ) (zs : List ℕ) → k < length zs → set zs k v ≡ put k (v ∷ []) zs
put_one k v zs h = rw (add-one k) (set_split zs k v h)

-- a part that comes back as ys
pub put_part : (a e : ℕ) (ys zs : List ℕ) → a ≤ e → length ys ≡ e - a → take a zs ++ (ys ++ drop (e - a) (drop a zs)) ≡ put a ys zs
put_part a e ys zs h l =
    let z : a + (e - a) ≡ a + length ys = ap (λ (n : ℕ). a + n) (sym l) in
    rw (drop-drop (e - a) a zs, z)

-- the same where the length of what was written is known by another name
pub put_put_at : (k n : ℕ) (xs ys zs : List ℕ) → length xs ≡ n → k + n ≤ length zs → put (k + n) ys (put k xs zs) ≡ put k (xs ++ ys) zs
put_put_at k n xs ys zs e h = subst (λ (m : ℕ). put (k + m) ys (put k xs zs) ≡ put k (xs ++ ys) zs) e (put_put k xs zs (rw e h) ys)
