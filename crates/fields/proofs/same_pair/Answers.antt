use Rattle.std.proofs.Common.{◌≡◌, ℕ, ◌+◌, ◌*◌, ◌<◌, eqb, ◌&&◌, arith}
use Rattle.fields.specs.Laws.{pairs_same}
use Rattle.fields.proofs.same_pair.Goals as goal

-- two numbers that are those of two pairs
by_numbers : (x y a b n m : ℕ) → x < 256 → a < 256 → n ≡ y * 256 + x → m ≡ b * 256 + a → eqb n m ≡ eqb x a && eqb y b
by_numbers x y a b n m h k e f = rw (e, f) (pairs_same x y a b h k)

pub returns : goal.returns
returns c = by_numbers c.args.x c.args.y c.args.a c.args.b _ _ (omega arith) (omega arith) (omega arith) (omega arith)
