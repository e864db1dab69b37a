-- A choice by a test, `cond b x y`, and how a proof goes down a nest of choices one test at a time.
-- Each law says: with the test decided as it was, what equals the chosen side equals the choice. `search picks` finds
-- the tests among what is known at a place of the code.
use Rattle.std.specs.Prelude.{ℕ, ◌<◌, ◌≤◌, ◌≡◌, refl, Bool, true, false, cond, not, ◌&&◌, ◌||◌, ltb, leb, eqb}
use Rattle.std.proofs.Common.{sym, ap, ap₂, subst, ◌∙◌, true≢false, lt-ltb, le-ltb, le-leb, eq-eqb, ne_eqb}
use Rattle.std.proofs.lemmas.Bool.{lt-leb, not-true, not-false}

pub on : {A : Type 0} {x z : A} {b : Bool} (y : A) → b ≡ true → z ≡ x → z ≡ cond b x y
on {x = x} y e h = h ∙ ap (λ (t : Bool). cond t x y) (sym e)

pub off : {A : Type 0} {y z : A} {b : Bool} (x : A) → b ≡ false → z ≡ y → z ≡ cond b x y
off {y = y} x e h = h ∙ ap (λ (t : Bool). cond t x y) (sym e)

-- tests of two numbers
pub on_eq : {A : Type 0} {x z : A} {a b : ℕ} (y : A) → a ≡ b → z ≡ x → z ≡ cond (eqb a b) x y
on_eq y t h = on y (eq-eqb _ _ t) h

pub off_eq : {A : Type 0} {y z : A} {a b : ℕ} (x : A) → (a ≡ b → ⊥) → z ≡ y → z ≡ cond (eqb a b) x y
off_eq x t h = off x (ne_eqb _ _ t) h

pub on_lt : {A : Type 0} {x z : A} {a b : ℕ} (y : A) → a < b → z ≡ x → z ≡ cond (ltb a b) x y
on_lt y t h = on y (lt-ltb _ _ t) h

pub off_lt : {A : Type 0} {y z : A} {a b : ℕ} (x : A) → b ≤ a → z ≡ y → z ≡ cond (ltb a b) x y
off_lt x t h = off x (le-ltb _ _ t) h

pub on_le : {A : Type 0} {x z : A} {a b : ℕ} (y : A) → a ≤ b → z ≡ x → z ≡ cond (leb a b) x y
on_le y t h = on y (le-leb _ _ t) h

pub off_le : {A : Type 0} {y z : A} {a b : ℕ} (x : A) → b < a → z ≡ y → z ≡ cond (leb a b) x y
off_le x t h = off x (lt-leb _ _ t) h

-- a test that another function made: r is what it answered, b what its contract says
pub on_call : {A : Type 0} {x z : A} {b r : Bool} (y : A) → r ≡ b → r ≡ true → z ≡ x → z ≡ cond b x y
on_call y e t h = on y (sym e ∙ t) h

pub off_call : {A : Type 0} {y z : A} {b r : Bool} (x : A) → r ≡ b → r ≡ false → z ≡ y → z ≡ cond b x y
off_call x e t h = off x (sym e ∙ t) h

pub on_not : {A : Type 0} {x z : A} {b r : Bool} (y : A) → r ≡ b → not r ≡ false → z ≡ x → z ≡ cond b x y
on_not y e t h = on y (sym e ∙ not-false _ t) h

pub off_not : {A : Type 0} {y z : A} {b r : Bool} (x : A) → r ≡ b → not r ≡ true → z ≡ y → z ≡ cond b x y
off_not x e t h = off x (sym e ∙ not-true _ t) h

-- a test against a number r that another function answered
pub on_below : {A : Type 0} {x z : A} {a b r : ℕ} (y : A) → r ≡ b → a < r → z ≡ x → z ≡ cond (ltb a b) x y
on_below {a = a} y e t h = on_lt y (subst (λ (n : ℕ). a < n) e t) h

pub off_below : {A : Type 0} {y z : A} {a b r : ℕ} (x : A) → r ≡ b → r ≤ a → z ≡ y → z ≡ cond (ltb a b) x y
off_below {a = a} x e t h = off_lt x (subst (λ (n : ℕ). n ≤ a) e t) h

-- a test that a number r, which another function answered, is another than b
pub on_ne : {A : Type 0} {x z : A} {a b r : ℕ} (y : A) → r ≡ a → (r ≡ b → ⊥) → z ≡ x → z ≡ cond (not (eqb a b)) x y
on_ne y e t h = on y (ap not (ne_eqb _ _ (λ q. t (e ∙ q)))) h

pub off_ne : {A : Type 0} {y z : A} {a b r : ℕ} (x : A) → r ≡ a → r ≡ b → z ≡ y → z ≡ cond (not (eqb a b)) x y
off_ne x e t h = off x (ap not (eq-eqb _ _ (sym e ∙ t))) h

pub ruleset picks = (on_eq, off_eq, on_lt, off_lt, on_le, off_le, on_call, off_call, on_not, off_not, on_below, off_below)

-- the same choice, by a test and a first side that are known by other names
pub same_choice : {A : Type 0} {b b' : Bool} {x x' z : A} (y : A) → z ≡ cond b x y → b ≡ b' → x ≡ x' → z ≡ cond b' x' y
same_choice {A = A} y e p q = e ∙ ap₂ (λ (t : Bool) (v : A). cond t v y) p q

-- the first test decides; r is what a function answered of it
pub or_on : {a r : Bool} (b : Bool) → r ≡ a → r ≡ true → a || b ≡ true
or_on b e t = ap (λ (u : Bool). u || b) (sym e ∙ t)

pub and_off : {a r : Bool} (b : Bool) → r ≡ a → r ≡ false → a && b ≡ false
and_off b e t = ap (λ (u : Bool). u && b) (sym e ∙ t)

-- both tests of a conjunction
pub both : (a b : Bool) → a && b ≡ true → (a ≡ true) × (b ≡ true)
both true b e = (refl, e)
both false b e = let z : false ≡ true = e in (z, cc)

-- and of a disjunction that fails
pub neither : (a b : Bool) → a || b ≡ false → (a ≡ false) × (b ≡ false)
neither false b e = (refl, e)
neither true b e = absurd (true≢false e)

-- what holds of both sides holds of the choice
pub either : {A : Type 0} (P : A → Type 0) (b : Bool) (x y : A) → P x → P y → P (cond b x y)
either P true x y p q = p
either P false x y p q = q

-- the same with what is known on each side
pub either_known : {A : Type 0} (P : A → Type 0) (b : Bool) {x y : A} → (b ≡ true → P x) → (b ≡ false → P y) → P (cond b x y)
either_known {A} P b {x} {y} p q = go b refl
  where
    go : (t : Bool) → b ≡ t → P (cond t x y)
    go true h = p h
    go false h = q h

-- and of two choices by tests that answer alike
pub either_both : {A B : Type 0} (P : A → B → Type 0) {b c : Bool} {x u : A} {y v : B} → b ≡ c → (b ≡ true → P x y)
    → (b ≡ false → P u v) → P (cond b x u) (cond c y v)
either_both {A} {B} P {b} {c} {x} {u} {y} {v} e p q = subst (λ (t : Bool). P (cond b x u) (cond t y v)) e (go b refl)
  where
    go : (t : Bool) → b ≡ t → P (cond t x u) (cond t y v)
    go true h = p h
    go false h = q h
