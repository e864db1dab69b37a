-- What a rule reads of a forwarded record is what it reads of the record: text through the table, and anything else as it
-- stands.
use Rattle.std.specs.Prelude.{ℕ, zero, suc, ◌+◌, ◌-◌, ◌≤◌, ◌<◌, ◌≡◌, refl, Bool, true, false, ◌&&◌, ◌||◌, cond, List, [], ◌∷◌, leb, ltb, length, take, drop}
use Rattle.std.proofs.Common.{sym, ap₂, ◌∙◌, add-zero, suc-add, add-suc, arith, leb-true, le-ltb}
use Rattle.std.proofs.Math.Path.{ap}
use Rattle.std.proofs.Math.Bool.{and-false}
use Rattle.std.proofs.lemmas.Bool.{lt-leb}
use Rattle.laws.specs.Choice.{both}
use Rattle.charset.specs.Table.{rep, text, rep_rep}
use Rattle.records.specs.Places.{part}
use Rattle.records.specs.Inside.{part_le}
use Rattle.records.specs.declared.Span.{Span}
use Rattle.forwarding.specs.Text.{lies}
use Rattle.forwarding.specs.Forwarded.{fwd}
use Rattle.forwarding.specs.Parts.{fwd_length}

-- a place that lies apart from each of the places: the test computes
abbrev pub apart : List Span → Span → Bool
apart [] s = true
apart (t ∷ ts) s = (leb s.end t.start || leb t.end s.start) && apart ts s

-- two records that every rule reads alike; the places of ss are text
pub record Alike (page : ℕ) (ss : List Span) (a b : List ℕ) : Type 0 where
  pub long : length b ≡ length a
  pub plain : (s : Span) → apart ss s ≡ true → part s b ≡ part s a
  pub read : (s : Span) → text page (part s b) ≡ text page (part s a)

-- forwarding, part by part
module _ (r : ℕ → ℕ) (t : ℕ → Bool) where
  pub fwd_drop : (n i : ℕ) (f : List ℕ) → drop n (fwd r t i f) ≡ fwd r t (i + n) (drop n f)
  fwd_drop zero i f = ap (λ (k : ℕ). fwd r t k f) (sym (add-zero i))
  fwd_drop (suc n) i [] = refl
  fwd_drop (suc n) i (b ∷ f) = fwd_drop n (suc i) f ∙ ap (λ (k : ℕ). fwd r t k (drop n f)) (suc-add i n ∙ sym (add-suc i n))

  pub fwd_take : (n i : ℕ) (f : List ℕ) → take n (fwd r t i f) ≡ fwd r t i (take n f)
  fwd_take zero i f = refl
  fwd_take (suc n) i [] = refl
  fwd_take (suc n) i (b ∷ f) = ap (λ (l : List ℕ). cond (t i) (r b) b ∷ l) (fwd_take n (suc i) f)

  -- where no place is text, nothing changes
  pub fwd_none : (i : ℕ) (xs : List ℕ) → ((k : ℕ) → i ≤ k → k < i + length xs → t k ≡ false) → fwd r t i xs ≡ xs
  fwd_none i [] h = refl
  fwd_none i (x ∷ xs) h = simp (h i (omega arith) (omega arith), fwd_none (suc i) xs (λ k p q. h k (omega arith) (omega arith)))

  -- the same places, counted from elsewhere
  pub fwd_from : (u : ℕ → Bool) (i j : ℕ) (xs : List ℕ) → ((k : ℕ) → k < length xs → t (i + k) ≡ u (j + k)) → fwd r t i xs ≡ fwd r u j xs
  fwd_from u i j [] h = refl
  fwd_from u i j (x ∷ xs) h =
      let here : t i ≡ u j = ap t (sym (add-zero i)) ∙ h 0 (omega arith) ∙ ap u (add-zero j) in
      ap₂ (λ (c : Bool) (l : List ℕ). cond c (r x) x ∷ l) here
      (fwd_from u (suc i) (suc j) xs
      (λ k l. ap t (suc-add i k ∙ sym (add-suc i k)) ∙ h (suc k) (omega arith) ∙ ap u (add-suc j k ∙ sym (suc-add j k))))

  pub part_fwd : (i : ℕ) (s : Span) (f : List ℕ) → part s (fwd r t i f) ≡ fwd r t (i + s.start) (part s f)
  unfolding part
  part_fwd i s f = ap (take (s.end - s.start)) (fwd_drop s.start i f) ∙ fwd_take (s.end - s.start) (i + s.start) (drop s.start f)

-- text, read through the table, at any place at all
text_fwd : (page : ℕ) (t : ℕ → Bool) (i : ℕ) (f : List ℕ) → text page (fwd (rep page) t i f) ≡ text page f
text_fwd page t i [] = refl
text_fwd page t i (b ∷ f) = ap₂ ◌∷◌ (go (t i)) (text_fwd page t (suc i) f)
  where
    go : (c : Bool) → rep page (cond c (rep page b) b) ≡ rep page b
    go true = rep_rep page b
    go false = refl

pub lies_apart : (ss : List Span) (s : Span) (k : ℕ) → apart ss s ≡ true → s.start ≤ k → k < s.end → lies ss k ≡ false
lies_apart [] s k e p q = refl
lies_apart (t ∷ ts) s k e p q =
    let here = leb s.end t.start || leb t.end s.start in
    let w = both here (apart ts s) e in
    ap₂ ◌||◌ (go (leb s.end t.start) refl w.0) (lies_apart ts s k w.1 p q)
  where
    go : (b : Bool) → leb s.end t.start ≡ b → b || leb t.end s.start ≡ true → leb t.start k && ltb k t.end ≡ false
    go true g h = ap (λ (c : Bool). c && ltb k t.end) (lt-leb t.start k (omega (arith, leb-true s.end t.start g)))
    go false g h =
        ap (λ (c : Bool). leb t.start k && c) (le-ltb k t.end (omega (arith, leb-true t.end s.start h)))
        ∙ and-false (leb t.start k)

-- a record, forwarded by its own text places
pub alike : (page : ℕ) (ss : List Span) (a : List ℕ) → Alike page ss a (fwd (rep page) (lies ss) 0 a)
alike page ss a =
    record {
      long = fwd_length (rep page) (lies ss) 0 a;
      plain = λ s e. part_fwd (rep page) (lies ss) 0 s a ∙ still s e;
      read = λ s. ap (text page) (part_fwd (rep page) (lies ss) 0 s a) ∙ text_fwd page (lies ss) (0 + s.start) (part s a);
    }
  where
    still : (s : Span) → apart ss s ≡ true → fwd (rep page) (lies ss) (0 + s.start) (part s a) ≡ part s a
    still s e =
        fwd_none (rep page) (lies ss) (0 + s.start) (part s a)
        (λ k p q. lies_apart ss s k e (omega arith) (omega (arith, part_le s a)))
