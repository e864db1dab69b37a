-- The slot of a record: the bytes from its place on, as many as the longest record that may stand there. That is 256 for
-- record 0 and 768 for every later one, Z included; a slot is shorter where the file ends. All that the desk asks of a
-- record, it asks of its slot: fewer bytes left than a record needs, and bytes after Z (RULES 4.1), show in the slot's
-- length.
use Rattle.std.specs.Prelude.{ℕ, ◌+◌, ◌*◌, ◌-◌, ◌≤◌, min, ◌≡◌, refl, Bool, true, false, cond, List, eqb, length, take, drop}
use Rattle.std.proofs.Common.{sym, ap, ap₂, ◌∙◌, arith, eqb-true, ne_eqb, length-take, length-drop, take_all}
use Rattle.std.proofs.lemmas.Bool.{eqb-false}
use Rattle.records.specs.Places.{record_at}

abbrev pub width_at : ℕ → ℕ
width_at k = cond (eqb k 0) 256 768

unfoldable pub slot_at : List ℕ → ℕ → List ℕ
slot_at file k = take (width_at k) (drop (record_at k) file)

-- where record k stands, without a test of k
pub place_is : (k : ℕ) → record_at k ≡ 768 * k - 512
place_is k = go (eqb k 0) refl
  where
    go : (b : Bool) → eqb k 0 ≡ b → cond b 0 (256 + 768 * (k - 1)) ≡ 768 * k - 512
    go true e = omega (arith, eqb-true k 0 e)
    go false e = omega (arith, eqb-false k 0 e)

-- how long a slot is
pub slot_length : (file : List ℕ) (k : ℕ) → length (slot_at file k) ≡ min (width_at k) (length file - (768 * k - 512))
unfolding slot_at
slot_length file k = length-take (width_at k) (drop (record_at k) file) ∙ ap (min (width_at k)) (length-drop (record_at k) file ∙ ap (λ (a : ℕ). length file - a) (place_is k))

pub later_width : (k : ℕ) → 1 ≤ k → width_at k ≡ 768
later_width k h = rw (ne_eqb k 0 (λ (e : k ≡ 0). omega arith))

-- the slot as a part of the file, where the file ends in it and where it does not
pub slot_short : (file : List ℕ) (k at width : ℕ) → at ≡ record_at k → width ≡ width_at k → length file - at ≤ width
    → take (length file - at) (drop at file) ≡ slot_at file k
unfolding slot_at
slot_short file k at width p q h =
    take_all (length file - at) (drop at file) (omega (arith, length-drop at file))
    ∙ sym (take_all width (drop at file) (omega (arith, length-drop at file)))
    ∙ ap₂ (λ (w a : ℕ). take w (drop a file)) q p

pub slot_full : (file : List ℕ) (k at width : ℕ) → at ≡ record_at k → width ≡ width_at k
    → take (at + width - at) (drop at file) ≡ slot_at file k
unfolding slot_at
slot_full file k at width p q =
    let h : at + width - at ≡ width = omega arith in
    ap (λ (w : ℕ). take w (drop at file)) h ∙ ap₂ (λ (w a : ℕ). take w (drop a file)) q p

-- the slots of a file with n T records
module _ (file : List ℕ) (n : ℕ) (long : length file ≡ 512 + 768 * n) where
  pub q_long : length (slot_at file 0) ≡ 256
  q_long = slot_length file 0 ∙ omega arith

  pub t_long : (k : ℕ) → 1 ≤ k → k ≤ n → length (slot_at file k) ≡ 768
  t_long k h l = omega (arith, rw (later_width k h) at (slot_length file k))

  pub z_long : length (slot_at file (n + 1)) ≡ 256
  z_long = omega (arith, rw (later_width (n + 1) (omega arith)) at (slot_length file (n + 1)))

  pub place_in : (k : ℕ) → k ≤ n + 1 → record_at k ≤ length file
  place_in k h = omega (arith, place_is k)
