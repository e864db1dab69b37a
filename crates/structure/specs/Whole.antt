-- What a whole record is, and what it tells of the file: after a Q or T the next record's place lies in the file, and a Z
-- ends it.
use Rattle.std.specs.Prelude.{ℕ, ◌+◌, ◌*◌, ◌-◌, ◌≤◌, ◌<◌, ◌≡◌, refl, Bool, true, false, ◌&&◌, ◌||◌, cond, List, eqb, ltb, leb, length, take, drop}
use Prim.Native.Char.{code}
use Rattle.std.proofs.Math.Path.{sym, ap, ap₂}
use Rattle.std.proofs.Common.{◌∙◌, arith, ltb-false, leb-true, eqb-true, eq-eqb, ne_eqb, le-ltb, lit<, lit≤, get_or-take, take-take}
use Rattle.std.proofs.lemmas.Bool.{false≢true, eqb-false}
use Rattle.laws.specs.Ascii.{ascii}
use Rattle.laws.specs.Choice.{on, off, off_eq, neither, either}
use Rattle.fields.specs.Class.{same}
use Rattle.fields.specs.Laws.{same_is}
use Rattle.structure.specs.Slots.{slot_at, slot_length, later_width}
use Rattle.structure.specs.Walk.{letter_of, digits_of, allowed, length_for, digits_for, fault_in}

pub record WholeSlot (k : ℕ) (slot : List ℕ) : Type 0 where
  pub here : allowed k (letter_of slot) ≡ true
  pub digits : same (digits_of slot) (digits_for (letter_of slot)) ≡ true
  pub long : length_for (letter_of slot) ≤ length slot
  pub last : letter_of slot ≡ code "Z" → length slot ≤ 256

both_on : (a b : Bool) → a && b ≡ false → a ≡ true → b ≡ false
both_on true b e t = e
both_on false b e t = absurd (false≢true t)

pub whole : (k : ℕ) (slot : List ℕ) → fault_in k slot ≡ 0 → WholeSlot k slot
unfolding fault_in
whole k slot e =
    go (ltb (length slot) 5) (allowed k (letter_of slot)) (same (digits_of slot) (digits_for (letter_of slot)))
    (ltb (length slot) (length_for (letter_of slot))) (eqb (letter_of slot) (code "Z") && ltb 256 (length slot)) refl refl refl refl e
  where
    no : {A : Type 0} (n : ℕ) → n ≡ 0 → 0 < n → A
    no n e h = absurd (omega arith)

    go : (short here digits less more : Bool) → allowed k (letter_of slot) ≡ here → same (digits_of slot) (digits_for (letter_of slot)) ≡ digits
        → ltb (length slot) (length_for (letter_of slot)) ≡ less → eqb (letter_of slot) (code "Z") && ltb 256 (length slot) ≡ more
        → ◌≡◌ {A = ℕ} (cond short 2 (cond here (cond digits (cond less 2 (cond more 5 0)) 3) 4)) 0
        → WholeSlot k slot
    go true here digits less more p q r t e = no 2 e (omega arith)
    go false false digits less more p q r t e = no 4 e (omega arith)
    go false true false less more p q r t e = no 3 e (omega arith)
    go false true true true more p q r t e = no 2 e (omega arith)
    go false true true false true p q r t e = no 5 e (omega arith)
    go false true true false false p q r t e =
        record {
          here = p;
          digits = q;
          long = ltb-false _ _ r;
          last = λ z. ltb-false 256 (length slot) (both_on _ _ t (eq-eqb _ _ z));
        }

-- every kind has 256 bytes at least
pub length_low : (letter : ℕ) → 256 ≤ length_for letter
length_low letter = either (λ (n : ℕ). 256 ≤ n) (eqb letter (code "T")) 768 256 (lit≤ tt) (lit≤ tt)

-- and a whole record breaks nothing
pub no_fault : (k : ℕ) (slot : List ℕ) → WholeSlot k slot → fault_in k slot ≡ 0
unfolding fault_in
no_fault k slot w =
    sym
    (off 2 (le-ltb (length slot) 5 (omega (arith, w.long, length_low (letter_of slot))))
    (on 4 w.here
    (on 3 w.digits
    (off 2 (le-ltb _ _ w.long)
    (off 5 (go (eqb (letter_of slot) (code "Z")) refl) refl)))))
  where
    go : (b : Bool) → eqb (letter_of slot) (code "Z") ≡ b → b && ltb 256 (length slot) ≡ false
    go true e = le-ltb 256 (length slot) (w.last (eqb-true (letter_of slot) (code "Z") e))
    go false e = refl

-- the letter by the record's number
pub letter_q : (k letter : ℕ) → k ≡ 0 → allowed k letter ≡ true → letter ≡ code "Q"
letter_q k letter z e = eqb-true letter (code "Q") (sym (ap (λ (t : Bool). cond t (eqb letter (code "Q")) (eqb letter (code "T") || (eqb letter (code "Z") && leb 2 k))) (eq-eqb k 0 z)) ∙ e)

letter_later : (k letter : ℕ) → 1 ≤ k → allowed k letter ≡ true → eqb letter (code "T") || (eqb letter (code "Z") && leb 2 k) ≡ true
letter_later k letter h e =
    sym (ap (λ (t : Bool). cond t (eqb letter (code "Q")) (eqb letter (code "T") || (eqb letter (code "Z") && leb 2 k))) (ne_eqb k 0 (λ (z : k ≡ 0). omega arith))) ∙ e

pub letter_t : (k letter : ℕ) → 1 ≤ k → allowed k letter ≡ true → (letter ≡ code "Z" → ⊥) → letter ≡ code "T"
letter_t k letter h e n = go (eqb letter (code "T")) refl (letter_later k letter h e)
  where
    go : (b : Bool) → eqb letter (code "T") ≡ b → b || (eqb letter (code "Z") && leb 2 k) ≡ true → letter ≡ code "T"
    go true p q = eqb-true letter (code "T") p
    go false p q = absurd (false≢true (sym (ap (λ (t : Bool). t && leb 2 k) (ne_eqb letter (code "Z") n)) ∙ q))

pub z_later : (k letter : ℕ) → letter ≡ code "Z" → allowed k letter ≡ true → 2 ≤ k
z_later k letter z e = go (eqb k 0) refl
  where
    at_2 : eqb letter (code "T") || (eqb letter (code "Z") && leb 2 k) ≡ true → 2 ≤ k
    at_2 q = leb-true 2 k (sym (ap (λ (l : ℕ). eqb l (code "T") || (eqb l (code "Z") && leb 2 k)) z) ∙ q)

    go : (b : Bool) → eqb k 0 ≡ b → 2 ≤ k
    go true p = absurd (eqb-false (code "Z") (code "Q") refl (sym z ∙ letter_q k letter (eqb-true k 0 p) e))
    go false p = at_2 (letter_later k letter (omega (arith, eqb-false k 0 p)) e)

pub length_t : (letter : ℕ) → letter ≡ code "T" → length_for letter ≡ 768
length_t letter e = ap length_for e

-- after a whole Q or T the next record has its place in the file
pub more_room : (file : List ℕ) (k : ℕ) → fault_in k (slot_at file k) ≡ 0 → (letter_of (slot_at file k) ≡ code "Z" → ⊥)
    → 768 * (k + 1) - 512 ≤ length file
more_room file k e n = go (eqb k 0) refl
  where
    w : WholeSlot k (slot_at file k)
    w = whole k (slot_at file k) e

    go : (b : Bool) → eqb k 0 ≡ b → 768 * (k + 1) - 512 ≤ length file
    go true p =
        omega (arith, eqb-true k 0 p, w.long, length_low (letter_of (slot_at file k)), slot_length file k)
    go false p =
        let later : 1 ≤ k = omega (arith, eqb-false k 0 p) in
        let long : 768 ≤ length (slot_at file k) = omega (arith, w.long, length_t _ (letter_t k _ later w.here n)) in
        omega (arith, rw (later_width k later) at (slot_length file k))

-- a whole Z ends the file, which then has k - 1 T records
pub ends_room : (file : List ℕ) (k : ℕ) → fault_in k (slot_at file k) ≡ 0 → letter_of (slot_at file k) ≡ code "Z"
    → (2 ≤ k) × (length file ≡ 512 + 768 * (k - 1))
ends_room file k e z =
    let w = whole k (slot_at file k) e in
    let later : 2 ≤ k = z_later k _ z w.here in
    let long : 256 ≤ length (slot_at file k) = omega (arith, w.long, length_low (letter_of (slot_at file k))) in
    let last : length (slot_at file k) ≤ 256 = w.last z in
    (later, omega (arith, rw (later_width k (omega arith)) at (slot_length file k)))

-- a whole T record behind Q, by its length and its first five bytes alone
abbrev pub whole_t : ℕ → List ℕ → Bool
whole_t k slot = cond (eqb k 0 || ltb (length slot) 768) false (same (take 5 (drop 0 slot)) (ascii "0768T"))

-- that is enough: the record breaks nothing, and is no Z
module _ (k : ℕ) (slot : List ℕ) (e : whole_t k slot ≡ true) where
  t_parts : (1 ≤ k) × (768 ≤ length slot) × (take 5 slot ≡ ascii "0768T")
  t_parts = go (eqb k 0 || ltb (length slot) 768) refl e
    where
      go : (other : Bool) → eqb k 0 || ltb (length slot) 768 ≡ other → cond other false (same (take 5 slot) (ascii "0768T")) ≡ true
          → (1 ≤ k) × (768 ≤ length slot) × (take 5 slot ≡ ascii "0768T")
      go true p e = absurd (false≢true e)
      go false p e =
          let n = neither (eqb k 0) (ltb (length slot) 768) p in
          (omega (arith, eqb-false k 0 n.0), ltb-false _ _ n.1, same_is _ _ e)

  t_letter : letter_of slot ≡ code "T"
  t_letter = sym (get_or-take 5 slot 4 0 (lit< tt)) ∙ ap letter_of t_parts.2

  pub t_no_z : letter_of slot ≡ code "Z" → ⊥
  t_no_z z = eqb-false (code "T") (code "Z") refl (sym t_letter ∙ z)

  t_digits : digits_of slot ≡ ascii "0768"
  t_digits = sym (take-take 4 5 slot (lit≤ tt)) ∙ ap (take 4) t_parts.2

  pub t_right : fault_in k slot ≡ 0
  unfolding same
  t_right =
      no_fault k slot
      (record {
        here = ap (allowed k) t_letter ∙ sym (off_eq _ (λ (z : k ≡ 0). omega (arith, t_parts.0)) refl);
        digits = ap₂ same t_digits (ap digits_for t_letter);
        long = omega (arith, length_t _ t_letter, t_parts.1);
        last = λ z. absurd (t_no_z z);
      })
