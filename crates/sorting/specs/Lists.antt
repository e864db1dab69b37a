-- The kept and the returned of a list of T records, by what rule tells of each: laws by going down the list, and what one
-- record more brings.
use Rattle.std.specs.Prelude.{ℕ, zero, suc, ◌+◌, ◌*◌, ◌<◌, ◌≡◌, refl, Bool, true, false, cond, List, [], ◌∷◌, ◌++◌, eqb, length, get_or}
use Rattle.std.proofs.Common.{ap, ◌∙◌, arith, eqb-true, eq-eqb, ne_eqb}
use Rattle.laws.specs.Sums.{sum_of}
use Rattle.judge.specs.Records.{AllLong}
use Rattle.sorting.specs.Kept.{kept, returned, named}

module _ (rule : List ℕ → ℕ) where
  -- by the record at the front: one that is kept, and one that is not
  module _ (t : List ℕ) (ts : List (List ℕ)) where
    pub front_kept : rule t ≡ 0 → (kept rule (t ∷ ts) ≡ t ∷ kept rule ts) × (returned rule (t ∷ ts) ≡ returned rule ts)
    front_kept e =
        (ap (λ (b : Bool). cond b (t ∷ kept rule ts) (kept rule ts)) (eq-eqb (rule t) 0 e), ap (λ (b : Bool). cond b (returned rule ts) (t ∷ returned rule ts)) (eq-eqb (rule t) 0 e))

    pub front_returned : (rule t ≡ 0 → ⊥) → (kept rule (t ∷ ts) ≡ kept rule ts) × (returned rule (t ∷ ts) ≡ t ∷ returned rule ts)
    front_returned f =
        (ap (λ (b : Bool). cond b (t ∷ kept rule ts) (kept rule ts)) (ne_eqb (rule t) 0 f), ap (λ (b : Bool). cond b (returned rule ts) (t ∷ returned rule ts)) (ne_eqb (rule t) 0 f))

  -- a sum over the kept and one over the returned are that over all; so are their numbers
  pub sums_add : (f : List ℕ → ℕ) (ts : List (List ℕ)) → sum_of f (kept rule ts) + sum_of f (returned rule ts) ≡ sum_of f ts
  sums_add f [] = refl
  sums_add f (t ∷ ts) = go (eqb (rule t) 0) (sums_add f ts)
    where
      go : (x : Bool) → sum_of f (kept rule ts) + sum_of f (returned rule ts) ≡ sum_of f ts
          → sum_of f (cond x (t ∷ kept rule ts) (kept rule ts)) + sum_of f (cond x (returned rule ts) (t ∷ returned rule ts)) ≡ f t + sum_of f ts
      go true h = omega arith
      go false h = omega arith

  pub counts_add : (ts : List (List ℕ)) → length (kept rule ts) + length (returned rule ts) ≡ length ts
  counts_add [] = refl
  counts_add (t ∷ ts) = go (eqb (rule t) 0) (counts_add ts)
    where
      go : (x : Bool) → length (kept rule ts) + length (returned rule ts) ≡ length ts
          → length (cond x (t ∷ kept rule ts) (kept rule ts)) + length (cond x (returned rule ts) (t ∷ returned rule ts)) ≡ suc (length ts)
      go true h = omega arith
      go false h = omega arith

  -- each returned record is named once
  pub named_count : (k : ℕ) (ts : List (List ℕ)) → length (named rule k ts) ≡ length (returned rule ts)
  named_count k [] = refl
  named_count k (t ∷ ts) = go (eqb (rule t) 0) (named_count (suc k) ts)
    where
      go : (x : Bool) → length (named rule (suc k) ts) ≡ length (returned rule ts)
          → length (cond x (named rule (suc k) ts) ((k * 100 + rule t) ∷ named rule (suc k) ts)) ≡ length (cond x (returned rule ts) (t ∷ returned rule ts))
      go true h = h
      go false h = ap suc h

  pub kept_long : (ts : List (List ℕ)) → AllLong ts → AllLong (kept rule ts)
  kept_long [] h = tt
  kept_long (t ∷ ts) h = go (eqb (rule t) 0) (kept_long ts h.1)
    where
      go : (x : Bool) → AllLong (kept rule ts) → AllLong (cond x (t ∷ kept rule ts) (kept rule ts))
      go true k = (h.0, k)
      go false k = k

  -- a kept record is one of the records, and breaks no rule
  pub record KeptFrom (ts : List (List ℕ)) (t : List ℕ) : Type 0 where
    pub place : ℕ
    pub below : place < length ts
    pub there : get_or ts place [] ≡ t
    pub right : rule t ≡ 0

  pub kept_from : (ts : List (List ℕ)) (k : ℕ) → k < length (kept rule ts) → KeptFrom ts (get_or (kept rule ts) k [])
  kept_from [] k l = absurd (omega arith)
  kept_from (t ∷ ts) k l = go (eqb (rule t) 0) refl k l (kept_from ts)
    where
      later : {u : List ℕ} → KeptFrom ts u → KeptFrom (t ∷ ts) u
      later f = record { place = suc f.place; below = omega (arith, f.below); there = f.there; right = f.right }

      go : (x : Bool) → eqb (rule t) 0 ≡ x → (k : ℕ) → k < length (cond x (t ∷ kept rule ts) (kept rule ts))
          → ((k : ℕ) → k < length (kept rule ts) → KeptFrom ts (get_or (kept rule ts) k []))
          → KeptFrom (t ∷ ts) (get_or (cond x (t ∷ kept rule ts) (kept rule ts)) k [])
      go true e zero l h = record { place = 0; below = omega arith; there = refl; right = eqb-true (rule t) 0 e }
      go true e (suc k) l h = later (h k (omega arith))
      go false e k l h = later (h k l)

  -- no record breaks a rule: all are kept
  pub kept_all : (ts : List (List ℕ)) → ((k : ℕ) → k < length ts → rule (get_or ts k []) ≡ 0) → kept rule ts ≡ ts
  kept_all [] h = refl
  kept_all (t ∷ ts) h = (front_kept t ts (h 0 (omega arith))).0 ∙ ap (λ (l : List (List ℕ)). t ∷ l) (kept_all ts (λ k l. h (suc k) (omega arith)))

  -- and where none is returned
  pub kept_whole : (ts : List (List ℕ)) → length (returned rule ts) ≡ 0 → kept rule ts ≡ ts
  kept_whole [] e = refl
  kept_whole (t ∷ ts) e = go (eqb (rule t) 0) e (kept_whole ts)
    where
      go : (x : Bool) → length (cond x (returned rule ts) (t ∷ returned rule ts)) ≡ 0 → (length (returned rule ts) ≡ 0 → kept rule ts ≡ ts)
          → cond x (t ∷ kept rule ts) (kept rule ts) ≡ t ∷ ts
      go true e h = ap (λ (l : List (List ℕ)). t ∷ l) (h e)
      go false e h = absurd (omega arith)

  -- records, and records behind them
  pub kept_append : (ts us : List (List ℕ)) → kept rule (ts ++ us) ≡ kept rule ts ++ kept rule us
  kept_append [] us = refl
  kept_append (t ∷ ts) us = rw (kept_append ts us) (go (eqb (rule t) 0))
    where
      go : (x : Bool) → cond x (t ∷ (kept rule ts ++ kept rule us)) (kept rule ts ++ kept rule us) ≡ cond x (t ∷ kept rule ts) (kept rule ts) ++ kept rule us
      go true = refl
      go false = refl

  pub named_append : (k : ℕ) (ts us : List (List ℕ)) → named rule k (ts ++ us) ≡ named rule k ts ++ named rule (k + length ts) us
  named_append k [] us = ap (λ (j : ℕ). named rule j us) (omega arith)
  named_append k (t ∷ ts) us =
      let z : suc k + length ts ≡ k + suc (length ts) = omega arith in
      rw (named_append (suc k) ts us, z) (go (eqb (rule t) 0))
    where
      go : (x : Bool) → cond x (named rule (suc k) ts ++ named rule (k + suc (length ts)) us) ((k * 100 + rule t) ∷ (named rule (suc k) ts ++ named rule (k + suc (length ts)) us))
          ≡ cond x (named rule (suc k) ts) ((k * 100 + rule t) ∷ named rule (suc k) ts) ++ named rule (k + suc (length ts)) us
      go true = refl
      go false = refl
