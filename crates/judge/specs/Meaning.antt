-- What `first_broken` means: 0 exactly where every rule holds, and otherwise the first broken rule, by record and then by rule.
use Rattle.std.specs.Prelude.{ℕ, ◌≤◌, ◌<◌, ◌≡◌, refl, Bool, true, false, not, eqb}
use Rattle.std.proofs.Common.{sym, ap, ◌∙◌, inl, inr, arith, eqb-true}
use Rattle.std.proofs.lemmas.Bool.{eqb-false, not-true, not-false}
use Rattle.laws.specs.Scan.{Means, means}
use Rattle.judge.specs.declared.Breach.{Breach}
use Rattle.judge.specs.First.{breaks, first_rule, faulty, told_at, none, first_broken}

-- of a number x, with the test that it is not 0
is_zero : (x : ℕ) → not (eqb x 0) ≡ false → x ≡ 0
is_zero x e = eqb-true x 0 (not-false _ e)

not_zero : (x : ℕ) → not (eqb x 0) ≡ true → x ≡ 0 → ⊥
not_zero x e = eqb-false x 0 (not-true _ e)

module _ (F : ℕ → ℕ → ℕ) (lo hi : ℕ → ℕ) (pos : (k : ℕ) → 0 < lo k) where
  -- every rule of record k holds
  abbrev pub Holds : ℕ → Type 0
  Holds k = (r : ℕ) → lo k ≤ r → r < hi k → F k r ≡ 0

  -- b is broken, with the place that its rule answers, and none before it is
  pub record FirstBroken (n : ℕ) (b : Breach) : Type 0 where
    pub below : b.rec < n
    pub rule_at_least : lo b.rec ≤ b.number
    pub rule_below : b.number < hi b.rec
    pub broken : F b.rec b.number ≡ 0 → ⊥
    pub place : b.at ≡ F b.rec b.number
    pub records_before : (k : ℕ) → k < b.rec → Holds k
    pub rules_before : (r : ℕ) → lo b.rec ≤ r → r < b.number → F b.rec r ≡ 0

  pub rules_hold : (k : ℕ) → first_rule F lo hi k ≡ 0 → Holds k
  rules_hold k e = by (first_rule F lo hi k) e (means (breaks F k) (λ r. r) 0 (lo k) (hi k))
    where
      by : (v : ℕ) → v ≡ 0 → Means (breaks F k) (λ r. r) 0 (lo k) (hi k) v → Holds k
      by v e (inl p) r a b = is_zero (F k r) (p.1 r a b)
      by v e (inr p) r a b = absurd (no v p.place e p.answer p.above)
        where
          no : (v x : ℕ) → v ≡ 0 → v ≡ x → lo k ≤ x → ⊥
          no v x e q l = omega (arith, pos k)

  -- the first broken rule of a record that breaks one
  rule_at : (n k : ℕ) → k < n → (first_rule F lo hi k ≡ 0 → ⊥) → ((j : ℕ) → j < k → Holds j)
      → FirstBroken n (told_at F lo hi k)
  rule_at n k l f h = by (first_rule F lo hi k) f (means (breaks F k) (λ r. r) 0 (lo k) (hi k))
    where
      by : (v : ℕ) → (v ≡ 0 → ⊥) → Means (breaks F k) (λ r. r) 0 (lo k) (hi k) v
          → FirstBroken n (record { number = v; rec = k; at = F k v })
      by v f (inl p) = absurd (f p.0)
      by v f (inr p) =
          record {
            below = l;
            rule_at_least = omega (arith, p.answer, p.above);
            rule_below = omega (arith, p.answer, p.below);
            broken = λ e. not_zero (F k p.place) p.holds (ap (F k) (sym p.answer) ∙ e);
            place = refl;
            records_before = h;
            rules_before = λ r a b. is_zero (F k r) (p.before r a (omega (arith, p.answer)));
          }

  -- 0 only where every rule holds
  pub none_broken : (n : ℕ) → (first_broken F lo hi n).number ≡ 0 → (k : ℕ) → k < n → Holds k
  none_broken n e = by (first_broken F lo hi n) e (means (faulty F lo hi) (told_at F lo hi) none 0 n)
    where
      by : (b : Breach) → b.number ≡ 0 → Means (faulty F lo hi) (told_at F lo hi) none 0 n b → (k : ℕ) → k < n → Holds k
      by b e (inl p) k l = rules_hold k (is_zero (first_rule F lo hi k) (p.1 k (omega arith) l))
      by b e (inr p) k l =
          absurd (not_zero (first_rule F lo hi p.place) p.holds (sym (ap (λ (o : Breach). o.number) p.answer) ∙ e))

  -- and an answer that is not 0 is the first broken rule
  pub broken : (n : ℕ) → ((first_broken F lo hi n).number ≡ 0 → ⊥) → FirstBroken n (first_broken F lo hi n)
  broken n f = by (first_broken F lo hi n) f (means (faulty F lo hi) (told_at F lo hi) none 0 n)
    where
      by : (b : Breach) → (b.number ≡ 0 → ⊥) → Means (faulty F lo hi) (told_at F lo hi) none 0 n b → FirstBroken n b
      by b f (inl p) = absurd (f (ap (λ (o : Breach). o.number) p.0))
      by b f (inr p) =
          rw p.answer
          (rule_at n p.place p.below (not_zero (first_rule F lo hi p.place) p.holds)
          (λ j l. rules_hold j (is_zero (first_rule F lo hi j) (p.before j (omega arith) l))))

  -- where every rule holds, 0
  pub complete : (n : ℕ) → ((k : ℕ) → k < n → Holds k) → (first_broken F lo hi n).number ≡ 0
  complete n h = by (first_broken F lo hi n).number (broken n)
    where
      by : (v : ℕ) → ((v ≡ 0 → ⊥) → FirstBroken n (first_broken F lo hi n)) → v ≡ 0
      by v b = go (eqb v 0) refl
        where
          go : (t : Bool) → eqb v 0 ≡ t → v ≡ 0
          go true e = eqb-true v 0 e
          go false e =
              let p = b (eqb-false v 0 e) in
              absurd (p.broken (h (first_broken F lo hi n).rec p.below (first_broken F lo hi n).number p.rule_at_least p.rule_below))
