-- What the code answers: a broken rule where there is one.
use Rattle.std.specs.Prelude.{ℕ, ◌≡◌, refl, Bool, true, false, cond, eqb, Option, Some, None, Result, Ok, Err}
use Rattle.std.proofs.Common.{sym, ap, ◌∙◌, inl, inr, eqb-true}
use Rattle.std.proofs.lemmas.Bool.{eqb-false, not-true}
use Rattle.laws.specs.Choice.{off_eq}
use Rattle.laws.specs.Scan.{Means, means}
use Rattle.judge.specs.First.{first_rule, faulty, told_at, none}
use Rattle.judge.specs.Run.{first_in}
use Rattle.judge.specs.declared.Breach.{Breach}

abbrev pub broken : Breach → Option Breach
broken b = cond (eqb b.number 0) None (Some b)

-- the same as a failure
abbrev pub unbroken : Breach → Result Unit Breach
unbroken b = cond (eqb b.number 0) (Ok tt) (Err b)

-- the answer with zeros for none
abbrev pub breach_of : Option Breach → Breach
breach_of None = none
breach_of (Some b) = b

pub some_broken : {b c : Breach} → (b.number ≡ 0 → ⊥) → b ≡ c → Some b ≡ broken c
some_broken {b} n e = off_eq {y = Some b} None n refl ∙ ap broken e

pub none_broken : {c : Breach} → none ≡ c → None ≡ broken c
none_broken e = ap broken e

-- what an answer says
pub was_some : {b c : Breach} → Some b ≡ broken c → (b ≡ c) × (b.number ≡ 0 → ⊥)
was_some {b} {c} e = go (eqb c.number 0) refl e
  where
    go : (t : Bool) → eqb c.number 0 ≡ t → ◌≡◌ {A = Option Breach} (Some b) (cond t None (Some c)) → (b ≡ c) × (b.number ≡ 0 → ⊥)
    go true p e = absurd (cc)
    go false p e = let q : b ≡ c = cc in (q, λ z. eqb-false c.number 0 p (cc))

pub was_none : (c : Breach) → None ≡ broken c → c.number ≡ 0
was_none c e = go (eqb c.number 0) refl e
  where
    go : (t : Bool) → eqb c.number 0 ≡ t → ◌≡◌ {A = Option Breach} None (cond t None (Some c)) → c.number ≡ 0
    go true p e = eqb-true c.number 0 p
    go false p e = cc

-- the answer tells all that the first broken rule is
pub kept : (F : ℕ → ℕ → ℕ) (lo hi : ℕ → ℕ) (from to : ℕ) → breach_of (broken (first_in F lo hi from to)) ≡ first_in F lo hi from to
kept F lo hi from to = by (first_in F lo hi from to) (means (faulty F lo hi) (told_at F lo hi) none from to)
  where
    by : (b : Breach) → Means (faulty F lo hi) (told_at F lo hi) none from to b → breach_of (broken b) ≡ b
    by b m = go (eqb b.number 0) refl m
      where
        go : (t : Bool) → eqb b.number 0 ≡ t → Means (faulty F lo hi) (told_at F lo hi) none from to b → breach_of (cond t None (Some b)) ≡ b
        go false p m = refl
        go true p (inl m) = sym m.0
        go true p (inr m) =
            let zero : first_rule F lo hi m.place ≡ 0 = sym (ap (λ (o : Breach). o.number) m.answer) ∙ eqb-true b.number 0 p in
            absurd (eqb-false (first_rule F lo hi m.place) 0 (not-true _ m.holds) zero)

-- as a failure
pub failed : {b : Breach} (c : Breach) → Some b ≡ broken c → Err b ≡ unbroken c
failed {b} c e = go (eqb c.number 0) e
  where
    go : (t : Bool) → ◌≡◌ {A = Option Breach} (Some b) (cond t None (Some c)) → ◌≡◌ {A = Result Unit Breach} (Err b) (cond t (Ok tt) (Err c))
    go true e = cc
    go false e = let q : b ≡ c = cc in ap Err q

pub passed : (c : Breach) → None ≡ broken c → Ok tt ≡ unbroken c
passed c e = go (eqb c.number 0) e
  where
    go : (t : Bool) → ◌≡◌ {A = Option Breach} None (cond t None (Some c)) → ◌≡◌ {A = Result Unit Breach} (Ok tt) (cond t (Ok tt) (Err c))
    go true e = refl
    go false e = cc

pub was_broken : {b c : Breach} → Err b ≡ unbroken c → (b ≡ c) × (b.number ≡ 0 → ⊥)
was_broken {b} {c} e = go (eqb c.number 0) refl e
  where
    go : (t : Bool) → eqb c.number 0 ≡ t → ◌≡◌ {A = Result Unit Breach} (Err b) (cond t (Ok tt) (Err c)) → (b ≡ c) × (b.number ≡ 0 → ⊥)
    go true p e = absurd (cc)
    go false p e = let q : b ≡ c = cc in (q, λ z. eqb-false c.number 0 p (cc))

pub was_whole : {u : Unit} (c : Breach) → Ok u ≡ unbroken c → c.number ≡ 0
was_whole {u} c e = go (eqb c.number 0) refl e
  where
    go : (t : Bool) → eqb c.number 0 ≡ t → ◌≡◌ {A = Result Unit Breach} (Ok u) (cond t (Ok tt) (Err c)) → c.number ≡ 0
    go true p e = eqb-true c.number 0 p
    go false p e = cc
