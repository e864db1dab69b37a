-- Document 01, "Records" (RULES 2.1): "A file is one Q record, one or more T records, one Z record", and "Q 256, T 768, Z
-- 256". A file by its records: q, the T records ts and z, joined.
use Rattle.std.specs.Prelude.{ℕ, ◌≡◌, List, [], ◌∷◌, ◌++◌, length}

abbrev pub joined : List (List ℕ) → List ℕ
joined [] = []
joined (t ∷ ts) = t ++ joined ts

abbrev pub file_of : List ℕ → List (List ℕ) → List ℕ → List ℕ
file_of q ts z = q ++ (joined ts ++ z)

abbrev pub AllLong : List (List ℕ) → Type 0
AllLong [] = Unit {0}
AllLong (t ∷ ts) = (length t ≡ 768) × AllLong ts

pub record Lengths (q : List ℕ) (ts : List (List ℕ)) (z : List ℕ) : Type 0 where
  pub q_size : length q ≡ 256
  pub t_size : AllLong ts
  pub z_size : length z ≡ 256

-- q, ts and z are the records of the file
abbrev pub MadeOf : List ℕ → List ℕ → List (List ℕ) → List ℕ → Type 0
MadeOf file q ts z = Lengths q ts z × (file ≡ file_of q ts z)
