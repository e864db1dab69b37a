-- The key has record 1's T3 and T4b.
use Rattle.std.specs.Prelude.{ℕ, zero, suc, ◌+◌, ◌≡◌, refl, List, [], ◌∷◌, take, drop}
use Rattle.std.proofs.Common.{sym, ap, ◌∙◌, zero-add, arith, lit≤, take-take, drop-drop}
use Rattle.std.proofs.Math.Seq.{take-nil}
use Rattle.records.specs.Places.{part}
use Rattle.records.specs.declared.TField.TheVariants.{T3, T4b}
use Rattle.payments.specs.Rules.{in_t, key_of, key_t3, key_t4b}

pub key_t3_is : (first : List ℕ) → key_t3 (key_of first) ≡ in_t T3 first
unfolding part
key_t3_is first = take-take 8 21 (drop 5 first) (lit≤ tt)

drop_take : (m n k : ℕ) (l : List ℕ) → m + n ≡ k → drop m (take k l) ≡ take n (drop m l)
drop_take zero n k l e = ap (λ (i : ℕ). take i l) (sym e ∙ zero-add n)
drop_take (suc m) n zero l e = absurd (omega (arith, e))
drop_take (suc m) n (suc k) [] e = sym (take-nil n)
drop_take (suc m) n (suc k) (x ∷ l) e = drop_take m n k l (omega (arith, e))

pub key_t4b_is : (first : List ℕ) → key_t4b (key_of first) ≡ in_t T4b first
unfolding part
key_t4b_is first =
    ap (take 10) (drop_take 11 10 21 (drop 5 first) refl) ∙ take-take 10 10 (drop 11 (drop 5 first)) (lit≤ tt)
    ∙ ap (take 10) (drop-drop 11 5 first)
