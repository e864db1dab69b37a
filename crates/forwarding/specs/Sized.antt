-- What sending asks of a file: that it is as long as Q, some T records and Z. And the walk over its T records by their
-- places, from Q's end to Z's beginning.
use Rattle.std.specs.Prelude.{ℕ, ◌+◌, ◌*◌, ◌-◌, ◌%◌, ◌≤◌, ◌<◌, ◌≡◌, refl, List, length}
use Rattle.std.proofs.Common.{arith}
use Rattle.forwarding.specs.Between.{between, between_long}

pub record Sized (file : List ℕ) : Type 0 where
  pub payments : ℕ
  pub long : length file ≡ 512 + 768 * payments
  pub most : payments ≤ 9999

-- where Z begins
abbrev pub z_at : List ℕ → ℕ
z_at file = length file - 256

-- a place where a T record or Z begins
pub record Begins (file : List ℕ) (at : ℕ) : Type 0 where
  pub low : 256 ≤ at
  pub high : at + 256 ≤ length file
  pub turn : at % 768 ≡ 256

pub begins_first : {file : List ℕ} → Sized file → Begins file 256
begins_first s = record { low = omega arith; high = omega (arith, s.long); turn = refl }

module _ {file : List ℕ} {at : ℕ} (s : Sized file) (b : Begins file at) where
  pub begins_last : z_at file ≤ at → at + 256 ≡ length file
  begins_last h = omega (arith, b.high)

  module _ (more : at < z_at file) where
    z_follows : at + 768 + 256 ≤ length file
    z_follows = omega (arith, s.long, b.low, b.turn)

    pub fits : at + 768 ≤ length file
    fits = omega (arith, z_follows)

    pub begins_next : Begins file (at + 768)
    begins_next = record { low = omega (arith, b.low); high = z_follows; turn = omega (arith, b.turn) }

    pub rec_long : length (between at (at + 768) file) ≡ 768
    rec_long = omega (arith, between_long at (at + 768) file fits)
