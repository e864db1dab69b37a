-- The first broken rule, as it is found record by record.
use Rattle.std.proofs.Common.{ℕ, zero, suc, ◌+◌, ◌-◌, ◌<◌, arith, ◌≡◌, Bool, not, refl, ap, sym, ap₂, ◌∙◌, true, false, cond, eqb}
use Rattle.laws.specs.Choice.{off}
use Rattle.laws.specs.Scan.{from, run, or_else}
use Rattle.judge.specs.declared.Breach.{Breach}
use Rattle.judge.specs.First.{first_rule, faulty, told_at, none, first_broken}
use Rattle.tally.specs.Record.{or_next}

-- the first broken rule of record k alone, or none
abbrev pub breach_at : (ℕ → ℕ → ℕ) → (ℕ → ℕ) → (ℕ → ℕ) → ℕ → Breach
breach_at F lo hi k = or_else (faulty F lo hi) (told_at F lo hi) k none

-- it is known by what the record's own rules say
pub same_breach : (F G : ℕ → ℕ → ℕ) (lo hi lo' hi' : ℕ → ℕ) (k : ℕ) → ((rule : ℕ) → F k rule ≡ G k rule) → lo k ≡ lo' k → hi k ≡ hi' k
    → breach_at F lo hi k ≡ breach_at G lo' hi' k
same_breach F G lo hi lo' hi' k h p q i = breach_at (λ (j rule : ℕ). h rule i) (λ (j : ℕ). p i) (λ (j : ℕ). q i) k

module _ (F : ℕ → ℕ → ℕ) (lo hi : ℕ → ℕ) where
  abbrev g : ℕ → Breach → Breach
  g = or_else (faulty F lo hi) (told_at F lo hi)

  -- one record more at the end
  from_last : (z : Breach) (m i : ℕ) → from g z (suc m) i ≡ from g (g (i + m) z) m i
  unfolding from
  from_last z zero i = let e : i ≡ i + 0 = omega arith in ap (λ (j : ℕ). g j z) e
  from_last z (suc m) i =
      let e : i + 1 + m ≡ i + suc m = omega arith in
      ap (g i) (from_last z m (i + 1) ∙ ap (λ (j : ℕ). from g (g j z) m (i + 1)) e)

  -- what is told where no record before is broken
  from_none : (z : Breach) (m i : ℕ) → from g z m i ≡ or_next (from g none m i) z
  unfolding from
  from_none z zero i = refl
  from_none z (suc m) i = go (eqb (first_rule F lo hi i) 0) refl (from_none z m (i + 1))
    where
      go : (b : Bool) → eqb (first_rule F lo hi i) 0 ≡ b → from g z m (i + 1) ≡ or_next (from g none m (i + 1)) z
          → cond (not b) (told_at F lo hi i) (from g z m (i + 1)) ≡ or_next (cond (not b) (told_at F lo hi i) (from g none m (i + 1))) z
      go true e h = h
      go false e h = off {y = told_at F lo hi i} z e refl

  pub so_far : (n : ℕ) → first_broken F lo hi (n + 1) ≡ or_next (first_broken F lo hi n) (breach_at F lo hi n)
  unfolding run
  so_far n =
      let a : n + 1 - 0 ≡ suc n = omega arith in
      let b : n - 0 ≡ n = omega arith in
      let c : 0 + n ≡ n = omega arith in
      rw (a, b) (from_last none n 0 ∙ ap (λ (j : ℕ). from g (g j none) n 0) c ∙ from_none (g n none) n 0)

-- what is told of the records below n is known by each of them alone
pub same_so_far : (F G : ℕ → ℕ → ℕ) (lo hi lo' hi' : ℕ → ℕ) (n : ℕ) → ((k : ℕ) → k < n → breach_at F lo hi k ≡ breach_at G lo' hi' k)
    → first_broken F lo hi n ≡ first_broken G lo' hi' n
unfolding run from
same_so_far F G lo hi lo' hi' zero h = refl
same_so_far F G lo hi lo' hi' (suc n) h =
    let up : suc n ≡ n + 1 = omega arith in
    rw up
    (so_far F lo hi n
    ∙ ap₂ or_next (same_so_far F G lo hi lo' hi' n (λ k l. h k (omega arith))) (h n (omega arith))
    ∙ sym (so_far G lo' hi' n))
