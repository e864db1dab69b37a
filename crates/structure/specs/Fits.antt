-- What the walk's answer means. A file that fits is whole records up to its Z; a refusal names the record that the walk
-- came to and could not pass. The bound of the search never answers: a file of at most 7,679,744 bytes ends before it.
use Rattle.std.specs.Prelude.{ℕ, ◌+◌, ◌*◌, ◌-◌, ◌≤◌, ◌<◌, ◌≡◌, refl, Bool, true, false, ◌||◌, not, cond, List, ◌⊎◌, eqb, leb, ltb, length}
use Prim.Native.Char.{code}
use Rattle.std.proofs.Common.{sym, ap, ap₂, subst, ◌∙◌, true≢false, inl, inr, ⊎_elim, eq-or-lt_of_le, arith, leb-true, leb-false, ltb-true, ltb-false, eqb-true, eq-eqb, ne_eqb}
use Rattle.std.proofs.lemmas.Bool.{eqb-false}
use Rattle.laws.specs.Scan.{Means, means, first}
use Rattle.structure.specs.Slots.{slot_at}
use Rattle.structure.specs.Walk.{letter_of, fault_in, stops, told, structure_of}
use Rattle.structure.specs.Whole.{more_room, ends_room}
use Rattle.structure.specs.Shape.{Shape, Fits, Refused}

-- record k is whole, and no Z: the walk goes on
pub record WalksOn (file : List ℕ) (k : ℕ) : Type 0 where
  pub right : fault_in k (slot_at file k) ≡ 0
  pub no_z : letter_of (slot_at file k) ≡ code "Z" → ⊥

-- the walk comes to record k
abbrev pub Reached : List ℕ → ℕ → Type 0
Reached file k = (j : ℕ) → j < k → WalksOn file j

module _ (file : List ℕ) (k : ℕ) where
  pub goes_on : stops file k ≡ false → WalksOn file k
  goes_on e = go (eqb (fault_in k (slot_at file k)) 0) (eqb (letter_of (slot_at file k)) (code "Z")) refl refl e
    where
      go : (a b : Bool) → eqb (fault_in k (slot_at file k)) 0 ≡ a → eqb (letter_of (slot_at file k)) (code "Z") ≡ b → not a || b ≡ false
          → WalksOn file k
      go true false p q e = record { right = eqb-true _ _ p; no_z = eqb-false _ _ q }
      go true true p q e = absurd (true≢false e)
      go false b p q e = absurd (true≢false e)

  pub stays : WalksOn file k → stops file k ≡ false
  stays p = rw (eq-eqb _ _ p.right, ne_eqb _ _ p.no_z)

  -- where the walk goes on, there is room for what follows
  pub passed_room : WalksOn file k → 768 * (k + 1) - 512 ≤ length file
  passed_room p = more_room file k p.right p.no_z

-- a file that fits, with n T records
pub record Fit (file : List ℕ) (n : ℕ) : Type 0 where
  pub due : Reached file (n + 1)
  pub right : fault_in (n + 1) (slot_at file (n + 1)) ≡ 0
  pub z : letter_of (slot_at file (n + 1)) ≡ code "Z"
  pub some : 1 ≤ n
  pub most : n ≤ 9999
  pub long : length file ≡ 512 + 768 * n

-- a refusal at a record that the walk comes to
pub record Stuck (file : List ℕ) (number k : ℕ) : Type 0 where
  pub due : Reached file k
  pub broken : fault_in k (slot_at file k) ≡ number
  pub real : number ≡ 0 → ⊥

-- what an answer means, by its case
abbrev pub Tells : List ℕ → Shape → Type 0
Tells file (Fits n) = (length file ≤ 7679744) × Fit file n
Tells file (Refused number k) =
    ((7679744 < length file) × (number ≡ 1) × (k ≡ 0)) ⊎ ((length file ≤ 7679744) × Stuck file number k)

module _ (file : List ℕ) (short : length file ≤ 7679744) where
  -- record 10,000 is the last that the walk can come to
  ends : Reached file 10001 → ⊥
  ends due = let room = passed_room file 10000 (due 10000 (omega arith)) in omega (arith, room)

  pub fit : (k : ℕ) → Reached file k → fault_in k (slot_at file k) ≡ 0 → letter_of (slot_at file k) ≡ code "Z" → Fit file (k - 1)
  fit k due right z =
      let room = ends_room file k right z in
      let back : k - 1 + 1 ≡ k = omega (arith, room.0) in
      record {
        due = rw back due;
        right = rw back right;
        z = rw back z;
        some = omega (arith, room.0);
        most = omega (arith, room.0, room.1);
        long = room.1;
      }

  tells_at : (k : ℕ) → Reached file k → stops file k ≡ true → Tells file (told file k)
  tells_at k due e = go (eqb (fault_in k (slot_at file k)) 0) refl e
    where
      go : (a : Bool) → eqb (fault_in k (slot_at file k)) 0 ≡ a → not a || eqb (letter_of (slot_at file k)) (code "Z") ≡ true
          → Tells file (cond a (Fits (k - 1)) (Refused (fault_in k (slot_at file k)) k))
      go true p e = (short, fit k due (eqb-true _ _ p) (eqb-true _ _ e))
      go false p e = inr (short, record { due = due; broken = refl; real = eqb-false _ _ p })

  search_tells : (s : Shape) → Means (stops file) (told file) (Refused 2 10001) 0 10001 s → Tells file s
  search_tells s (inl p) = absurd (ends (λ j h. goes_on file j (p.1 j (omega arith) h)))
  search_tells s (inr p) =
      rw p.answer (tells_at p.place (λ j h. goes_on file j (p.before j (omega arith) h)) p.holds)

pub tells : (file : List ℕ) → Tells file (structure_of file)
unfolding structure_of
tells file = go (ltb 7679744 (length file)) refl
  where
    go : (b : Bool) → ltb 7679744 (length file) ≡ b
        → Tells file (cond b (Refused 1 0) (first (stops file) (told file) (Refused 2 10001) 0 10001))
    go true e = inl (ltb-true _ _ e, refl, refl)
    go false e =
        let short = ltb-false 7679744 (length file) e in
        search_tells file short _ (means (stops file) (told file) (Refused 2 10001) 0 10001)

-- a file that fits has 512 + 768 n bytes, with 1 to 9,999 T records
pub fits : (file : List ℕ) (n : ℕ) → structure_of file ≡ Fits n → Fit file n
fits file n e = (rw e at (tells file)).1

-- a file that fits is stuck nowhere
fit_stuck : (file : List ℕ) (n number k : ℕ) → Fit file n → Stuck file number k → ⊥
fit_stuck file n number k f s = go (leb k (n + 1)) refl
  where
    go : (b : Bool) → leb k (n + 1) ≡ b → ⊥
    go false e = (s.due (n + 1) (leb-false k (n + 1) e)).no_z f.z
    go true e =
        ⊎_elim
        (λ (q : k ≡ n + 1). s.real (sym s.broken ∙ subst (λ (j : ℕ). fault_in j (slot_at file j) ≡ 0) (sym q) f.right))
        (λ (l : k < n + 1). s.real (sym s.broken ∙ (f.due k l).right))
        (eq-or-lt_of_le (leb-true k (n + 1) e))

-- and the other way round: whole records up to a Z are what the walk finds
pub fit_found : (file : List ℕ) (n : ℕ) → Fit file n → structure_of file ≡ Fits n
fit_found file n f = go (structure_of file) (tells file)
  where
    go : (s : Shape) → Tells file s → s ≡ Fits n
    go (Fits m) t =
        let same : m ≡ n = omega (arith, t.1.long, f.long) in
        ap Fits same
    go (Refused number k) (inl t) = absurd (omega (arith, t.0, f.long, f.most))
    go (Refused number k) (inr t) = absurd (fit_stuck file n number k f t.1)

-- and so is the first record that it cannot pass, of a file that is not too long
pub stuck_found : (file : List ℕ) (number k : ℕ) → length file ≤ 7679744 → Stuck file number k → structure_of file ≡ Refused number k
stuck_found file number k short s = go (structure_of file) (tells file)
  where
    same : (m j : ℕ) → Stuck file m j → j ≡ k → Refused m j ≡ Refused number k
    same m j t e =
        ap₂ Refused (sym t.broken ∙ ap (λ (i : ℕ). fault_in i (slot_at file i)) e ∙ s.broken) e

    go : (a : Shape) → Tells file a → a ≡ Refused number k
    go (Fits n) t = absurd (fit_stuck file n number k t.1 s)
    go (Refused m j) (inl t) = absurd (omega (arith, t.0))
    go (Refused m j) (inr t) = by (ltb j k) (ltb k j) refl refl
      where
        by : (a b : Bool) → ltb j k ≡ a → ltb k j ≡ b → Refused m j ≡ Refused number k
        by true b p q = absurd (t.1.real (sym t.1.broken ∙ (s.due j (ltb-true j k p)).right))
        by false true p q = absurd (s.real (sym s.broken ∙ (t.1.due k (ltb-true k j q)).right))
        by false false p q = same m j t.1 (omega (arith, ltb-false j k p, ltb-false k j q))
