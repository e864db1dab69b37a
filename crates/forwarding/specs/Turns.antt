-- The T records of a file, one after another, as code goes over them: `file[256..end].as_chunks::<768>().0`.
use Rattle.std.specs.Prelude.{ℕ, zero, suc, ◌+◌, ◌*◌, ◌-◌, ◌/◌, ◌≤◌, ◌<◌, ◌≡◌, refl, List, [], length, take, drop}
use Rattle.std.specs.Simd.{first_chunks}
use Rattle.std.proofs.Common.{ap, ◌∙◌, arith, get_or, drop-drop, take-take, mul-zero}
use Rattle.std.proofs.lemmas.List.{drop-take}
use Rattle.forwarding.specs.Between.{between, between_long}
use Rattle.forwarding.specs.Sized.{Sized, z_at}

-- of k chunks of n, chunk i; and where they are cut from the first m elements
pub chunks_long : (n k : ℕ) (xs : List ℕ) → length (first_chunks n k xs) ≡ k
chunks_long n zero xs = refl
chunks_long n (suc k) xs = ap suc (chunks_long n k (drop n xs))

chunk_is : (n k i : ℕ) (xs : List ℕ) → i < k → get_or (first_chunks n k xs) i [] ≡ take n (drop (n * i) xs)
chunk_is n zero i xs h = absurd (omega arith)
chunk_is n (suc k) zero xs h = rw mul-zero
chunk_is n (suc k) (suc i) xs h =
    let z : n + n * i ≡ n * suc i = omega arith in
    chunk_is n k i (drop n xs) (omega arith) ∙ ap (take n) (drop-drop (n * i) n xs ∙ ap (λ (m : ℕ). drop m xs) z)

pub chunk_in : (n k i m : ℕ) (xs : List ℕ) → i < k → n * i + n ≤ m → get_or (first_chunks n k (take m xs)) i [] ≡ take n (drop (n * i) xs)
chunk_in n k i m xs h l =
    let z : m ≡ n * i + (m - n * i) = omega arith in
    chunk_is n k i (take m xs) h
    ∙ ap (λ (j : ℕ). take n (drop (n * i) (take j xs))) z
    ∙ ap (take n) (drop-take (n * i) (m - n * i) xs)
    ∙ take-take n (m - n * i) (drop (n * i) xs) (omega arith)

-- where the file has T record k, from 0 on
abbrev pub turn : ℕ → ℕ
turn k = 256 + 768 * k

pub turn_next : (k : ℕ) → turn (k + 1) ≡ turn k + 768
turn_next k = omega arith

-- the bytes of all T records
abbrev pub payments : List ℕ → List ℕ
payments file = between 256 (z_at file) file

abbrev pub turns : List ℕ → List (List ℕ)
turns file = first_chunks 768 (length (payments file) / 768) (payments file)

module _ {file : List ℕ} (s : Sized file) {ts : List (List ℕ)} (are : ts ≡ turns file) where
  pub turns_many : length ts ≡ s.payments
  turns_many =
      omega (arith, s.long, ap length are, chunks_long 768 (length (payments file) / 768) (payments file), between_long 256 (z_at file) file (omega arith))

  module _ {k : ℕ} where
    pub turn_last : length ts ≤ k → z_at file ≤ turn k
    turn_last h = omega (arith, turns_many, s.long)

    module _ (more : k < length ts) where
      pub turn_before : turn k < z_at file
      turn_before = omega (arith, turns_many, s.long)

      pub turn_is : get_or ts k [] ≡ between (turn k) (turn k + 768) file
      turn_is =
          let all = length (payments file) / 768 in
          let here : k < all = omega (arith, ap length are, chunks_long 768 all (payments file)) in
          let w : 768 ≡ turn k + 768 - turn k = omega arith in
          ap (λ (rs : List (List ℕ)). get_or rs k []) are
          ∙ chunk_in 768 all k (z_at file - 256) (drop 256 file) here (omega (arith, turns_many, s.long))
          ∙ ap (take 768) (drop-drop (768 * k) 256 file)
          ∙ ap (λ (m : ℕ). take m (drop (turn k) file)) w
