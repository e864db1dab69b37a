-- What was found, or nothing: an answer that may be none, by the number that writes the same with 0 for none.
use Rattle.std.specs.Prelude.{ℕ, ◌≡◌, ◌≢◌, refl, zero, suc, Option, None, Some, Bool, cond, eqb}
use Rattle.std.proofs.Common.{sym, ap, ◌∙◌, ne_eqb, eq-eqb}

abbrev pub nonzero : ℕ → Option ℕ
nonzero n = cond (eqb n 0) None (Some n)

-- the number of an answer
abbrev pub or_zero : Option ℕ → ℕ
or_zero None = 0
or_zero (Some n) = n

-- where nothing is found, and where something is
pub none_found : {n : ℕ} → n ≡ 0 → None ≡ nonzero n
none_found {n} e = ap (λ (b : Bool). cond b None (Some n)) (sym (eq-eqb n 0 e))

pub some_found : {n : ℕ} → n ≢ 0 → Some n ≡ nonzero n
some_found {n} h = ap (λ (b : Bool). cond b None (Some n)) (sym (ne_eqb n 0 h))

pub or_zero_nonzero : (n : ℕ) → or_zero (nonzero n) ≡ n
or_zero_nonzero zero = refl
or_zero_nonzero (suc n) = ap or_zero (sym (some_found {n = suc n} (λ e. cc)))

-- and what an answer says
pub of_none : {n : ℕ} → None ≡ nonzero n → n ≡ 0
of_none {n} e = sym (or_zero_nonzero n) ∙ ap or_zero (sym e)

pub of_some : {n x : ℕ} → Some x ≡ nonzero n → x ≡ n
of_some {n} e = ap or_zero e ∙ or_zero_nonzero n

pub of_some_ne : {n x : ℕ} → Some x ≡ nonzero n → n ≢ 0
of_some_ne {n} e z = let no : Some _ ≡ None = e ∙ sym (none_found z) in cc
