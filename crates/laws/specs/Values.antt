-- The values of a function as a list: two functions whose lists compute to the same agree at every place of them.
use Rattle.std.specs.Prelude.{ℕ, zero, suc, ◌+◌, ◌<◌, ◌≡◌, List, [], ◌∷◌, get_or}
use Rattle.std.proofs.Common.{sym, ap, ◌∙◌, add-zero, zero-add, add-suc, suc-add, le_of_suc-le-suc, not-suc-le-zero}

-- g at i, i + 1, .., n of them
abbrev pub values : (ℕ → ℕ) → ℕ → ℕ → List ℕ
values g i zero = []
values g i (suc n) = g i ∷ values g (suc i) n

from : (g : ℕ → ℕ) (n i k : ℕ) → k < n → get_or (values g i n) k 0 ≡ g (i + k)
from g zero i k h = absurd (not-suc-le-zero h)
from g (suc n) i zero h = ap g (sym (add-zero i))
from g (suc n) i (suc k) h = from g n (suc i) k (le_of_suc-le-suc h) ∙ ap g (suc-add i k ∙ sym (add-suc i k))

pub valued : (g : ℕ → ℕ) (n k : ℕ) → k < n → get_or (values g 0 n) k 0 ≡ g k
valued g n k h = from g n 0 k h ∙ ap g (zero-add k)
