-- A loop that counts up, as a definition: each place answers by itself or hands on what the later places answer.
-- `run g z i e`: g i rest is the answer from place i on, rest that from place i + 1 on, and z the answer at e and past it.
use Prim.Native.Nat.{ℕ, zero, suc, ◌+◌, ◌-◌, ◌≤◌, ◌<◌}
use Rattle.std.specs.Prelude.{◌≡◌, Bool, cond, ◌⊎◌}
use Rattle.std.proofs.Math.Path.{refl, ap}
use Rattle.std.proofs.Common.{sym, ◌∙◌, ⊎_elim, eq-or-lt_of_le, arith}
use Rattle.std.proofs.Math.Bool.{true, false}
use Rattle.std.proofs.Math.Logic.{inl, inr}
use Rattle.std.proofs.Math.Nat.{le_refl}

count : (e i : ℕ) → i < e → e - i ≡ suc (e - (i + 1))
count e i h = omega arith

none_left : (e i : ℕ) → e ≤ i → e - i ≡ 0
none_left e i h = omega arith

module _ {A : Type 0} (g : ℕ → A → A) (z : A) where
  unfoldable pub from : ℕ → ℕ → A
  from zero i = z
  from (suc n) i =
      let rest = from n (i + 1) in
      g i rest

  unfoldable pub run : ℕ → ℕ → A
  run i e = from (e - i) i

  module _ (i e : ℕ) where
    pub run_turn : i < e → run i e ≡ g i (run (i + 1) e)
    unfolding run from
    run_turn h = ap (λ (m : ℕ). from m i) (count e i h)

    pub run_end : e ≤ i → run i e ≡ z
    unfolding run from
    run_end h = ap (λ (m : ℕ). from m i) (none_left e i h)

    -- for a loop whose invariant is `run g z i e ≡ whole`: a turn that hands on, one that answers v and leaves, and the end
    module _ (whole : A) where
      pub goes : i < e → run i e ≡ whole → run (i + 1) e ≡ g i (run (i + 1) e) → run (i + 1) e ≡ whole
      goes h inv p = p ∙ sym (run_turn h) ∙ inv

      pub leaves : (v : A) → i < e → run i e ≡ whole → v ≡ g i (run (i + 1) e) → v ≡ whole
      leaves v h inv p = p ∙ sym (run_turn h) ∙ inv

      pub ends : e ≤ i → run i e ≡ whole → z ≡ whole
      ends h inv = sym (run_end h) ∙ inv

-- a search: the first place where P holds, told by f; z where there is none
abbrev pub or_else : {A : Type 0} → (ℕ → Bool) → (ℕ → A) → ℕ → A → A
or_else P f i rest = cond (P i) (f i) rest

abbrev pub first : {A : Type 0} → (ℕ → Bool) → (ℕ → A) → A → ℕ → ℕ → A
first P f z i e = run (or_else P f) z i e

-- what a search means
pub record FoundAt {A : Type 0} (P : ℕ → Bool) (f : ℕ → A) (i e : ℕ) (v : A) : Type 0 where
  pub place : ℕ
  pub above : i ≤ place
  pub below : place < e
  pub holds : P place ≡ true
  pub answer : v ≡ f place
  pub before : (j : ℕ) → i ≤ j → j < place → P j ≡ false

abbrev pub NoneAt : (ℕ → Bool) → ℕ → ℕ → Type 0
NoneAt P i e = (j : ℕ) → i ≤ j → j < e → P j ≡ false

abbrev pub Means : {A : Type 0} (P : ℕ → Bool) (f : ℕ → A) (z : A) (i e : ℕ) (v : A) → Type 0
Means P f z i e v = ((v ≡ z) × NoneAt P i e) ⊎ FoundAt P f i e v

module _ {A : Type 0} (P : ℕ → Bool) (f : ℕ → A) (z : A) where
  module _ (i : ℕ) (n : P i ≡ false) where
    later : (t : ℕ) → ((j : ℕ) → i + 1 ≤ j → j < t → P j ≡ false) → (j : ℕ) → i ≤ j → j < t → P j ≡ false
    later t h j a b = ⊎_elim (λ (q : i ≡ j). ap P (sym q) ∙ n) (λ (l : i < j). h j (omega arith) b) (eq-or-lt_of_le a)

    more : (e : ℕ) (v : A) → Means P f z (i + 1) e v → Means P f z i e v
    more e v (inl p) = inl (p.0, later e p.1)
    more e v (inr p) =
        inr
        (record {
          place = p.place;
          above = omega (arith, p.above);
          below = p.below;
          holds = p.holds;
          answer = p.answer;
          before = later p.place p.before;
        })

  means_from : (m i e : ℕ) → e - i ≡ m → Means P f z i e (from (or_else P f) z m i)
  unfolding from
  means_from zero i e q = inl (refl, λ j a b. absurd (omega arith))
  means_from (suc m) i e q = go (means_from m (i + 1) e (omega arith)) (P i) refl
    where
      go : Means P f z (i + 1) e (from (or_else P f) z m (i + 1)) → (b : Bool) → P i ≡ b
          → Means P f z i e (cond b (f i) (from (or_else P f) z m (i + 1)))
      go ih true t =
          inr
          (record {
            place = i;
            above = le_refl i;
            below = omega arith;
            holds = t;
            answer = refl;
            before = λ j a b. absurd (omega arith);
          })
      go ih false t = more i t e (from (or_else P f) z m (i + 1)) ih

  pub means : (i e : ℕ) → Means P f z i e (first P f z i e)
  unfolding run
  means i e = means_from (e - i) i e refl
