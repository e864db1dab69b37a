-- The list that names what comes back: every broken payment with its first broken rule, nothing else, and rising.
use Prim.Native.Nat.{ℕ, zero, suc, ◌+◌, ◌*◌, ◌-◌, ◌≤◌, ◌<◌}
use mathlib.Core.Path.{◌≡◌, refl, sym, ap, ap₂, subst, ◌∙◌}
use mathlib.Core.Bool.{Bool, true, false, not, cond, false≢true}
use mathlib.Core.List.{List, [], ◌∷◌}
use mathlib.Core.Logic.{inl, inr}
use native.Mathlib.Omega.{arith}
use borrow.Author.Tests.{eqb-true, eqb-false, eq-eqb, ne_eqb, not-true, not-false}
use lib.Dec.{eqb}
use lib.ListN.{length, get_or}
use Rattle.laws.specs.Scan.{first, Means, means}
use Rattle.payments.specs.Rules.{key_of}
use Rattle.structure.specs.Slots.{slot_at}
use Rattle.structure.specs.Walk.{structure_of}
use Rattle.structure.specs.Shape.{Fits}
use Rattle.judge.specs.Apart.{slots_from, slots_count}
use Rattle.sorting.specs.Kept.{first_of, returned, named, rule_in, named_in}
use Rattle.sorting.proofs.Sound.{first_below}
use Rattle.sorting.specs.Frame.{records_are}
use Rattle.sorting.proofs.Outcome.{finds_none}
use Rattle.demands.specs.Sorting.{BrokenFirst, NoneOf, t_says, BreaksFirst, BreaksNone, Names, NamesAre, NamesAreOne}
use Rattle.demands.proofs.Alone.{one_number, same_rising}

-- of any list of records: rule tells of each its first broken rule, or 0
module _ (rule : List ℕ → ℕ) where
  -- u is a record that comes back, and v its name
  pub record NamedAt (k : ℕ) (ts : List (List ℕ)) (u : List ℕ) (v : ℕ) : Type 0 where
    pub place : ℕ
    pub below : place < length ts
    pub broken : rule (get_or ts place []) ≡ 0 → ⊥
    pub comes_back : u ≡ get_or ts place []
    pub is : v ≡ (k + place) * 100 + rule (get_or ts place [])

  later : (k : ℕ) (t : List ℕ) (ts : List (List ℕ)) {u : List ℕ} {v : ℕ} → NamedAt (suc k) ts u v → NamedAt k (t ∷ ts) u v
  later k t ts n =
      record {
        place = suc n.place;
        below = omega (arith, n.below);
        broken = n.broken;
        comes_back = n.comes_back;
        is = n.is ∙ ap (λ (j : ℕ). j * 100 + rule (get_or ts n.place [])) (omega arith);
      }

  pub named_only : (k : ℕ) (ts : List (List ℕ)) (i : ℕ) → i < length (named rule k ts)
      → NamedAt k ts (get_or (returned rule ts) i []) (get_or (named rule k ts) i 0)
  named_only k [] i l = absurd (omega arith)
  named_only k (t ∷ ts) i l = go (eqb (rule t) 0) refl i l (named_only (suc k) ts)
    where
      go : (x : Bool) → eqb (rule t) 0 ≡ x → (i : ℕ) → i < length (cond x (named rule (suc k) ts) ((k * 100 + rule t) ∷ named rule (suc k) ts))
          → ((i : ℕ) → i < length (named rule (suc k) ts) → NamedAt (suc k) ts (get_or (returned rule ts) i []) (get_or (named rule (suc k) ts) i 0))
          → NamedAt k (t ∷ ts) (get_or (cond x (returned rule ts) (t ∷ returned rule ts)) i []) (get_or (cond x (named rule (suc k) ts) ((k * 100 + rule t) ∷ named rule (suc k) ts)) i 0)
      go true e i l h = later k t ts (h i l)
      go false e zero l h =
          record { place = 0; below = omega arith; broken = eqb-false (rule t) 0 e; comes_back = refl; is = ap (λ (j : ℕ). j * 100 + rule t) (omega arith) }
      go false e (suc i) l h = later k t ts (h i (omega arith))

  pub named_every : (k : ℕ) (ts : List (List ℕ)) (i : ℕ) → i < length ts → (rule (get_or ts i []) ≡ 0 → ⊥)
      → (j : ℕ) × (j < length (named rule k ts)) × (get_or (named rule k ts) j 0 ≡ (k + i) * 100 + rule (get_or ts i []))
  named_every k [] i l f = absurd (omega arith)
  named_every k (t ∷ ts) zero l f =
      let e : named rule k (t ∷ ts) ≡ (k * 100 + rule t) ∷ named rule (suc k) ts =
      ap (λ (b : Bool). cond b (named rule (suc k) ts) ((k * 100 + rule t) ∷ named rule (suc k) ts)) (ne_eqb (rule t) 0 f) in
      let z : k ≡ k + 0 = omega arith in
      (0, omega (arith, ap length e), ap (λ (l : List ℕ). get_or l 0 0) e ∙ ap (λ (j : ℕ). j * 100 + rule t) z)
  named_every k (t ∷ ts) (suc i) l f = go (eqb (rule t) 0) (named_every (suc k) ts i (omega arith) f)
    where
      next : suc k + i ≡ k + suc i
      next = omega arith

      go : (x : Bool)
          → (j : ℕ) × (j < length (named rule (suc k) ts)) × (get_or (named rule (suc k) ts) j 0 ≡ (suc k + i) * 100 + rule (get_or ts i []))
          → (j : ℕ) × (j < length (cond x (named rule (suc k) ts) ((k * 100 + rule t) ∷ named rule (suc k) ts)))
          × (get_or (cond x (named rule (suc k) ts) ((k * 100 + rule t) ∷ named rule (suc k) ts)) j 0 ≡ (k + suc i) * 100 + rule (get_or ts i []))
      go true w = (w.0, w.1, w.2 ∙ ap (λ (j : ℕ). j * 100 + rule (get_or ts i [])) next)
      go false w = (suc w.0, omega (arith, w.1), w.2 ∙ ap (λ (j : ℕ). j * 100 + rule (get_or ts i [])) next)

  -- a name is above those of earlier records
  above : (k : ℕ) (ts : List (List ℕ)) (i : ℕ) → i < length (named rule k ts) → k * 100 < get_or (named rule k ts) i 0
  above k ts i l = let n = named_only k ts i l in real (rule (get_or ts n.place [])) n.place n.broken n.is
    where
      real : (r p : ℕ) {v : ℕ} → (r ≡ 0 → ⊥) → v ≡ (k + p) * 100 + r → k * 100 < v
      real zero p f e = absurd (f refl)
      real (suc r) p f e = omega (arith, e)

  pub named_rising : ((t : List ℕ) → rule t < 100) → (k : ℕ) (ts : List (List ℕ)) (i j : ℕ) → i < j → j < length (named rule k ts)
      → get_or (named rule k ts) i 0 < get_or (named rule k ts) j 0
  named_rising small k [] i j l h = absurd (omega arith)
  named_rising small k (t ∷ ts) i j l h = go (eqb (rule t) 0) i j l h (named_rising small (suc k) ts)
    where
      go : (x : Bool) (i j : ℕ) → i < j → j < length (cond x (named rule (suc k) ts) ((k * 100 + rule t) ∷ named rule (suc k) ts))
          → ((i j : ℕ) → i < j → j < length (named rule (suc k) ts) → get_or (named rule (suc k) ts) i 0 < get_or (named rule (suc k) ts) j 0)
          → get_or (cond x (named rule (suc k) ts) ((k * 100 + rule t) ∷ named rule (suc k) ts)) i 0
          < get_or (cond x (named rule (suc k) ts) ((k * 100 + rule t) ∷ named rule (suc k) ts)) j 0
      go true i j l h r = r i j l h
      go false zero zero l h r = absurd (omega arith)
      go false zero (suc j) l h r = omega (arith, small t, above (suc k) ts j (omega arith))
      go false (suc i) zero l h r = absurd (omega arith)
      go false (suc i) (suc j) l h r = r i j (omega arith) (omega arith)

-- the first broken rule, as a search tells it and as the statement has it: says is what the searched rules answer
module _ (G says : ℕ → ℕ) (from to : ℕ) (alike : (r : ℕ) → from ≤ r → r ≤ to → says r ≡ G r) (low : 0 < from) where
  abbrev breaks : ℕ → Bool
  breaks r = not (eqb (G r) 0)

  abbrev found : ℕ
  found = first breaks (λ (r : ℕ). r) 0 from (to + 1)

  pub found_first : (v : ℕ) → v ≡ found → (v ≡ 0 → ⊥) → BrokenFirst says from to v
  found_first v e f = by v f (subst (Means breaks (λ (r : ℕ). r) 0 from (to + 1)) (sym e) (means breaks (λ (r : ℕ). r) 0 from (to + 1)))
    where
      by : (v : ℕ) → (v ≡ 0 → ⊥) → Means breaks (λ (r : ℕ). r) 0 from (to + 1) v → BrokenFirst says from to v
      by v f (inl p) = absurd (f p.0)
      by v f (inr p) =
          let up : from ≤ v = omega (arith, p.answer, p.above) in
          let down : v ≤ to = omega (arith, p.answer, p.below) in
          record {
            low = up;
            high = down;
            broken = λ z. eqb-false _ 0 (not-true _ p.holds) (ap G (sym p.answer) ∙ sym (alike v up down) ∙ z);
            none_before = λ r a b. alike r a (omega arith) ∙ eqb-true (G r) 0 (not-false _ (p.before r a (omega (arith, p.answer))));
          }

  pub first_found : (rule : ℕ) → BrokenFirst says from to rule → found ≡ rule
  first_found rule b = by found (means breaks (λ (r : ℕ). r) 0 from (to + 1))
    where
      is_broken : breaks rule ≡ true
      is_broken = ap not (ne_eqb (G rule) 0 (λ z. b.broken (alike rule b.low b.high ∙ z)))

      by : (v : ℕ) → Means breaks (λ (r : ℕ). r) 0 from (to + 1) v → v ≡ rule
      by v (inl p) = absurd (false≢true (sym (p.1 rule b.low (omega (arith, b.high))) ∙ is_broken))
      by v (inr p) =
          p.answer
          ∙ one_number p.place rule
          (λ l. eqb-false _ 0 (not-true _ p.holds) (sym (alike p.place p.above (omega (arith, p.below))) ∙ b.none_before p.place p.above l))
          (λ l. false≢true (sym (p.before rule b.low l) ∙ is_broken))

  pub none_found : NoneOf says from to → found ≡ 0
  none_found h = finds_none breaks (λ (r : ℕ). r) 0 from (to + 1) (λ r a b. ap not (eq-eqb (G r) 0 (sym (alike r a (omega arith)) ∙ h r a (omega arith))))

  pub found_none : found ≡ 0 → NoneOf says from to
  found_none e r a b = by found e (means breaks (λ (r : ℕ). r) 0 from (to + 1))
    where
      by : (v : ℕ) → v ≡ 0 → Means breaks (λ (r : ℕ). r) 0 from (to + 1) v → says r ≡ 0
      by v e (inl p) = alike r a b ∙ eqb-true (G r) 0 (not-false _ (p.1 r a (omega arith)))
      by v e (inr p) = absurd (omega (arith, p.answer, p.above))

-- of T record k
module _ (page : ℕ) (file transfer cheque : List ℕ) (k : ℕ) where
  pub breaks_first : (v : ℕ) → v ≡ rule_in page file transfer cheque (slot_at file k) → (v ≡ 0 → ⊥) → BreaksFirst page file transfer cheque k v
  unfolding first_of
  breaks_first v e f = found_first (t_says page file transfer cheque k) (t_says page file transfer cheque k) 20 35 (λ r a b. refl) (omega arith) v e f

  pub is_first : (rule : ℕ) → BreaksFirst page file transfer cheque k rule → rule_in page file transfer cheque (slot_at file k) ≡ rule
  unfolding first_of
  is_first rule b = first_found (t_says page file transfer cheque k) (t_says page file transfer cheque k) 20 35 (λ r a b. refl) (omega arith) rule b

  pub breaks_none : rule_in page file transfer cheque (slot_at file k) ≡ 0 → BreaksNone page file transfer cheque k
  unfolding first_of
  breaks_none e = found_none (t_says page file transfer cheque k) (t_says page file transfer cheque k) 20 35 (λ r a b. refl) (omega arith) e

  pub is_none : BreaksNone page file transfer cheque k → rule_in page file transfer cheque (slot_at file k) ≡ 0
  unfolding first_of
  is_none h = none_found (t_says page file transfer cheque k) (t_says page file transfer cheque k) 20 35 (λ r a b. refl) (omega arith) h

pub slots_at : (file : List ℕ) (k m i : ℕ) → i < m → get_or (slots_from file k m) i [] ≡ slot_at file (k + i)
slots_at file k zero i l = absurd (omega arith)
slots_at file k (suc m) zero l = ap (slot_at file) (omega arith)
slots_at file k (suc m) (suc i) l = slots_at file (suc k) m i (omega arith) ∙ ap (slot_at file) (omega arith)

module _ (page : ℕ) (file transfer cheque : List ℕ) (n : ℕ) where
  abbrev rule : List ℕ → ℕ
  rule t = rule_in page file transfer cheque t

  abbrev all : List ℕ
  all = named rule 1 (slots_from file 1 n)

  slot_of : (k : ℕ) → 1 ≤ k → k ≤ n → get_or (slots_from file 1 n) (k - 1) [] ≡ slot_at file k
  slot_of k a b = slots_at file 1 n (k - 1) (omega arith) ∙ ap (slot_at file) (omega arith)

  -- the records 1 to n of any bytes
  pub names_all : Names page file transfer cheque n all
  names_all =
      record {
        every = λ k r a b f.
            let is : rule (get_or (slots_from file 1 n) (k - 1) []) ≡ r = ap rule (slot_of k a b) ∙ is_first page file transfer cheque k r f in
            let w = named_every rule 1 (slots_from file 1 n) (k - 1) (omega (arith, slots_count file 1 n)) (λ z. omega (arith, is, f.low)) in
            let number : 1 + (k - 1) ≡ k = omega arith in
            (w.0, w.1, w.2 ∙ ap₂ (λ (j r : ℕ). j * 100 + r) number is);
        only = λ i l.
            let w = named_only rule 1 (slots_from file 1 n) i l in
            let m : w.place < n = omega (arith, w.below, slots_count file 1 n) in
            let is : rule (get_or (slots_from file 1 n) w.place []) ≡ rule (slot_at file (1 + w.place)) = ap rule (slots_at file 1 n w.place m) in
            (1 + w.place, rule (slot_at file (1 + w.place)), omega arith, omega arith, breaks_first page file transfer cheque (1 + w.place) _ refl (λ z. w.broken (is ∙ z)), w.is ∙ ap (λ (r : ℕ). (1 + w.place) * 100 + r) is);
        rising = named_rising rule (λ t. omega (arith, first_below page transfer cheque (key_of (slot_at file 1)) t)) 1 (slots_from file 1 n);
      }

  pub names : structure_of file ≡ Fits n → Names page file transfer cheque n (named_in page file transfer cheque)
  names e = subst (λ (ts : List (List ℕ)). Names page file transfer cheque n (named rule 1 ts)) (sym (records_are file n e)) names_all

pub names_are : NamesAre
names_are page file transfer cheque n e = names page file transfer cheque n e

-- each name of one list is in the other, and both rise
pub names_are_one : NamesAreOne
names_are_one page file transfer cheque n =
    record {
      some = (_, names_all page file transfer cheque n);
      coincide = λ a b p q. same_rising a b p.rising q.rising (among a b p q) (among b a q p);
    }
  where
    among : (a b : List ℕ) → Names page file transfer cheque n a → Names page file transfer cheque n b → (k : ℕ) → k < length a
        → (j : ℕ) × (j < length b) × (get_or b j 0 ≡ get_or a k 0)
    among a b p q k h =
        let o = p.only k h in
        let w = q.every o.0 o.1 o.2 o.3 o.4 in
        (w.0, w.1, w.2 ∙ sym o.5)
