-- What sorting answers, by what the code found: the judge's first broken rule, amounts, Z and the figures.
use Rattle.std.specs.Prelude.{ℕ, ◌+◌, ◌≤◌, ◌<◌, ◌≡◌, Bool, true, false, not, List, eqb, leb, length, Some, None}
use Rattle.std.proofs.Common.{sym, ◌∙◌, inl, inr, arith, eqb-true, eq-eqb, ne_eqb, lit<, lit≤, refl, ap, subst, cond}
use Rattle.std.proofs.lemmas.Bool.{false≢true, eqb-false}
use Rattle.laws.specs.Choice.{either}
use Rattle.laws.specs.Found.{nonzero, none_found, some_found}
use Rattle.laws.specs.Scan.{first, or_else, run_turn, run_end, NoneAt, Means, means}
use Rattle.judge.specs.First.{breaks, first_rule, faulty, told_at, none}
use Rattle.judge.specs.Found.{broken, was_some, was_none}
use Rattle.judge.specs.Content.{fault_of, rule_from, rule_end, content_of, rule_real}
use Rattle.judge.specs.Meaning as meaning
use Rattle.judge.specs.Meaning.{rules_hold}
use Rattle.judge.specs.Sums.{euro_sum}
use Rattle.judge.specs.Run.{slot_fault, run_fault, first_in, by_itself}
use Rattle.judge.specs.declared.Breach.{Breach}
use Rattle.payments.specs.Faults.{t_fault}
use Rattle.sorting.specs.Kept.{first_of}
use Rattle.sorting.specs.Sorted.{rule_at}

-- a search that finds nothing
pub finds_none : {A : Type 0} (P : ℕ → Bool) (f : ℕ → A) (z : A) (i e : ℕ) → NoneAt P i e → first P f z i e ≡ z
finds_none {A} P f z i e h = go (first P f z i e) (means P f z i e)
  where
    go : (v : A) → Means P f z i e v → v ≡ z
    go v (inl p) = p.0
    go v (inr p) = absurd (false≢true (sym (h p.place p.above p.below) ∙ p.holds))

-- the rules of a record, from lo to below hi: the first broken one is 0 where each holds, and below hi
module _ (F : ℕ → ℕ → ℕ) (lo hi : ℕ → ℕ) (k : ℕ) where
  pub holds_none : ((r : ℕ) → lo k ≤ r → r < hi k → F k r ≡ 0) → first_rule F lo hi k ≡ 0
  holds_none h = finds_none (breaks F k) (λ (r : ℕ). r) 0 (lo k) (hi k) (λ r a b. ap not (eq-eqb (F k r) 0 (h r a b)))

  pub rule_below : (m : ℕ) → 0 < m → hi k ≤ m → first_rule F lo hi k < m
  rule_below m p l = go (first_rule F lo hi k) (means (breaks F k) (λ (r : ℕ). r) 0 (lo k) (hi k))
    where
      go : (v : ℕ) → Means (breaks F k) (λ (r : ℕ). r) 0 (lo k) (hi k) v → v < m
      go v (inl q) = omega (arith, q.0)
      go v (inr q) = omega (arith, q.answer, q.below)

  -- a run of one record tells it, of that record
  abbrev one : Breach
  one = first (faulty F lo hi) (told_at F lo hi) none k (k + 1)

  one_is : one ≡ cond (not (eqb (first_rule F lo hi k) 0)) (told_at F lo hi k) none
  one_is =
      run_turn (or_else (faulty F lo hi) (told_at F lo hi)) none k (k + 1) (omega arith)
      ∙ ap (or_else (faulty F lo hi) (told_at F lo hi) k) (run_end (or_else (faulty F lo hi) (told_at F lo hi)) none (k + 1) (k + 1) (omega arith))

  pub one_told : one.number ≡ first_rule F lo hi k
  one_told = ap (λ (b : Breach). b.number) one_is ∙ go (eqb (first_rule F lo hi k) 0) refl
    where
      go : (t : Bool) → eqb (first_rule F lo hi k) 0 ≡ t → (cond (not t) (told_at F lo hi k) none).number ≡ first_rule F lo hi k
      go true e = sym (eqb-true (first_rule F lo hi k) 0 e)
      go false e = refl

  pub one_there : (one.number ≡ 0 → ⊥) → one.rec ≡ k
  one_there f = ap (λ (b : Breach). b.rec) one_is ∙ go (eqb (first_rule F lo hi k) 0) refl
    where
      go : (t : Bool) → eqb (first_rule F lo hi k) 0 ≡ t → (cond (not t) (told_at F lo hi k) none).rec ≡ k
      go true e = absurd (f (one_told ∙ eqb-true (first_rule F lo hi k) 0 e))
      go false e = refl

-- the judge's first broken rule tells whether Q breaks one: its number is then below 20
module _ (page : ℕ) (file transfer cheque : List ℕ) (n : ℕ) where
  abbrev F : ℕ → ℕ → ℕ
  F k rule = fault_of page file n (euro_sum file n) transfer cheque k rule

  abbrev content : Breach
  content = content_of page file n (euro_sum file n) transfer cheque

  -- where Q breaks a rule, it is told of record 0
  pub q_told : (rule_at page file n transfer cheque 0 ≡ 0 → ⊥) → content ≡ told_at F (rule_from n) (rule_end n) 0
  unfolding content_of
  q_told f =
      run_turn (or_else (faulty F (rule_from n) (rule_end n)) (told_at F (rule_from n) (rule_end n))) none 0 (n + 2) (omega arith)
      ∙ ap (λ (t : Bool). cond (not t) (told_at F (rule_from n) (rule_end n) 0) (first (faulty F (rule_from n) (rule_end n)) (told_at F (rule_from n) (rule_end n)) none 1 (n + 2))) (ne_eqb _ 0 f)

  pub q_below : rule_at page file n transfer cheque 0 < 20
  q_below = rule_below F (rule_from n) (rule_end n) 0 20 (lit< tt) (lit≤ tt)

  pub later_told : rule_at page file n transfer cheque 0 ≡ 0 → (content.number ≡ 0 → ⊥) → 20 ≤ content.number
  unfolding content_of
  later_told z f =
      let b = meaning.broken F (rule_from n) (rule_end n) (rule_real n) (n + 2) f in
      go content.rec content.number (eqb content.rec 0) refl b.rule_at_least b.rule_below b.broken
    where
      low : (k : ℕ) → (k ≡ 0 → ⊥) → 20 ≤ rule_from n k
      low k s = subst (λ (t : Bool). 20 ≤ cond t 10 (cond (leb k n) 20 40)) (sym (ne_eqb k 0 s)) (either (λ (m : ℕ). 20 ≤ m) (leb k n) 20 40 (lit≤ tt) (lit≤ tt))

      go : (k r : ℕ) (t : Bool) → eqb k 0 ≡ t → rule_from n k ≤ r → r < rule_end n k → (F k r ≡ 0 → ⊥) → 20 ≤ r
      go k r true e a b h =
          let at = eqb-true k 0 e in
          absurd (h (ap (λ (j : ℕ). F j r) at ∙ rules_hold F (rule_from n) (rule_end n) (rule_real n) 0 z r (subst (λ (j : ℕ). rule_from n j ≤ r) at a) (subst (λ (j : ℕ). r < rule_end n j) at b)))
      go k r false e a b h = omega (arith, low k (eqb-false k 0 e))

-- a T record by itself, judged as record 1 of one
module _ (page : ℕ) (transfer cheque key t : List ℕ) (l : length t ≡ 768) where
  abbrev alone : Breach
  alone = first_in (run_fault page transfer cheque key 1 0 t 256) (rule_from 1) (rule_end 1) 1 2

  alone_is : alone.number ≡ first_of page transfer cheque key t
  unfolding first_of slot_fault
  alone_is =
      one_told (run_fault page transfer cheque key 1 0 t 256) (rule_from 1) (rule_end 1) 1
      ∙ ap (λ (s : List ℕ). first (λ (rule : ℕ). not (eqb (t_fault page transfer cheque key s rule) 0)) (λ (rule : ℕ). rule) 0 20 36) (by_itself t 1 (omega arith))

  pub alone_some : {b : Breach} → Some b ≡ broken alone → Some b.number ≡ nonzero (first_of page transfer cheque key t)
  alone_some e =
      let found = was_some e in
      let told = ap (λ (b : Breach). b.number) found.0 ∙ alone_is in
      ap Some told ∙ some_found (λ z. found.1 (told ∙ z))

  pub alone_none : None ≡ broken alone → None ≡ nonzero (first_of page transfer cheque key t)
  alone_none e = none_found (sym alone_is ∙ was_none alone e)

pub alone_told : (page : ℕ) (transfer cheque key t : List ℕ) {b : Breach} → length t ≡ 768
    → b ≡ first_in (run_fault page transfer cheque key 1 0 t 256) (rule_from 1) (rule_end 1) 1 2 → b.number ≡ first_of page transfer cheque key t
alone_told page transfer cheque key t l e = ap (λ (b : Breach). b.number) e ∙ alone_is page transfer cheque key t l
