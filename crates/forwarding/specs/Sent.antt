-- Pieces of a file written into the output, one behind the other and each at its own place, and Z behind them: that is the
-- forwarded file, written from place 0 on.
use Rattle.std.specs.Prelude.{ℕ, ◌+◌, ◌-◌, ◌≤◌, ◌≡◌, List, ◌++◌, length, drop}
use Rattle.std.proofs.Common.{sym, ap, ◌∙◌}
use native.Mathlib.Omega.{arith}
use Rattle.forwarding.specs.Forwarded.{forwarded}
use Rattle.forwarding.specs.Put.{put, put_length, put_none, put_put_at}
use Rattle.forwarding.specs.Pieces.{sent_in, sent_long, sent_more, all_sent}

module _ (page : ℕ) (file out : List ℕ) (room : length file ≤ length out) where
  pub sent_none : (a : ℕ) → out ≡ put a (sent_in page a a file) out
  unfolding sent_in
  sent_none a =
      let z : a - a ≡ 0 = omega arith in
      rw z (sym (put_none a out))

  module _ (a b : ℕ) (h : a ≤ b) (fits : b ≤ length file) where
    long : length (sent_in page a b file) ≡ b - a
    long = sent_long page file a b fits

    pub sent_same : {out' : List ℕ} → out' ≡ put a (sent_in page a b file) out → length out' ≡ length out
    sent_same e = ap length e ∙ put_length a (sent_in page a b file) out (omega (arith, long))

    behind : (ys : List ℕ) → put b ys (put a (sent_in page a b file) out) ≡ put a (sent_in page a b file ++ ys) out
    behind ys =
        let z : a + (b - a) ≡ b = omega arith in
        ap (λ (k : ℕ). put k ys (put a (sent_in page a b file) out)) (sym z)
        ∙ put_put_at a (b - a) (sent_in page a b file) ys out long (omega arith)

    -- one piece more
    pub sent_then : (c : ℕ) → b ≤ c → {out' out'' : List ℕ} → out' ≡ put a (sent_in page a b file) out → out'' ≡ put b (sent_in page b c file) out'
        → out'' ≡ put a (sent_in page a c file) out
    sent_then c l e f =
        f ∙ ap (put b (sent_in page b c file)) e ∙ behind (sent_in page b c file)
        ∙ ap (λ (xs : List ℕ). put a xs out) (sym (sent_more page file a b c h l fits))

  pub sent_all : (e : ℕ) → e + 256 ≡ length file → {out' out'' : List ℕ} → out' ≡ put 0 (sent_in page 0 e file) out → out'' ≡ put e (drop e file) out'
      → out'' ≡ put 0 (forwarded page file) out
  sent_all e long p q =
      q ∙ ap (put e (drop e file)) p ∙ behind 0 e (omega arith) (omega arith) (drop e file)
      ∙ ap (λ (xs : List ℕ). put 0 xs out) (sym (all_sent page file e long))
