-- Every file that fits is joined of its records: the slots of record 0, of records 1 to n, and of record n + 1.
use Rattle.std.specs.Prelude.{ℕ, zero, suc, ◌+◌, ◌*◌, ◌≤◌, ◌≡◌, refl, length}
use Rattle.std.proofs.Math.Path.{sym, ap, ap₂}
use Rattle.std.proofs.Common.{◌∙◌, add-zero, drop-drop}
use mathlib.Core.List.{List, [], ◌∷◌, ◌++◌, append_assoc}
use native.Mathlib.Omega.{arith}
use Rattle.std.proofs.Math.ListN.{take, drop, length-drop, take-append-drop}
use Rattle.std.proofs.Math.Seq.{take_all}
use Rattle.records.specs.Places.{record_at}
use Rattle.structure.specs.Slots.{slot_at, place_is, later_width, q_long, t_long, z_long}
use Rattle.structure.specs.Fits.{Fit}
use Rattle.judge.specs.Records.{joined, file_of, AllLong, MadeOf}

-- the slots of m records from record k on
abbrev pub slots_from : List ℕ → ℕ → ℕ → List (List ℕ)
slots_from file k zero = []
slots_from file k (suc m) = slot_at file k ∷ slots_from file (suc k) m

module _ (file : List ℕ) where
  pub slots_count : (k m : ℕ) → length (slots_from file k m) ≡ m
  slots_count k zero = refl
  slots_count k (suc m) = ap suc (slots_count (suc k) m)

  -- a slot and the bytes after it are the bytes from its place on
  slot_then : (k : ℕ) → 1 ≤ k → slot_at file k ++ drop (record_at (suc k)) file ≡ drop (record_at k) file
  unfolding slot_at
  slot_then k h =
      let next : record_at (suc k) ≡ record_at k + 768 = omega (arith, place_is k, place_is (suc k)) in
      ap₂ (λ (w a : ℕ). take w (drop (record_at k) file) ++ drop a file) (later_width k h) next
      ∙ ap (λ (l : List ℕ). take 768 (drop (record_at k) file) ++ l) (sym (drop-drop 768 (record_at k) file))
      ∙ take-append-drop 768 (drop (record_at k) file)

  slots_then : (k m : ℕ) → 1 ≤ k → joined (slots_from file k m) ++ drop (record_at (k + m)) file ≡ drop (record_at k) file
  slots_then k zero h = ap (λ (n : ℕ). drop (record_at n) file) (add-zero k)
  slots_then k (suc m) h =
      let more : k + suc m ≡ suc k + m = omega arith in
      ap (λ (n : ℕ). (slot_at file k ++ joined (slots_from file (suc k) m)) ++ drop (record_at n) file) more
      ∙ append_assoc (slot_at file k) (joined (slots_from file (suc k) m)) (drop (record_at (suc k + m)) file)
      ∙ ap (λ (l : List ℕ). slot_at file k ++ l) (slots_then (suc k) m (omega arith))
      ∙ slot_then k h

  module _ (n : ℕ) (long : length file ≡ 512 + 768 * n) where
    slots_long : (k m : ℕ) → 1 ≤ k → k + m ≤ n + 1 → AllLong (slots_from file k m)
    slots_long k zero h l = tt
    slots_long k (suc m) h l = (t_long file n long k h (omega arith), slots_long (suc k) m (omega arith) (omega arith))

    -- Z's slot is all that is left
    z_left : slot_at file (n + 1) ≡ drop (record_at (1 + n)) file
    unfolding slot_at
    z_left =
        let last : n + 1 ≡ 1 + n = omega arith in
        ap₂ (λ (w a : ℕ). take w (drop (record_at a) file)) (later_width (n + 1) (omega arith)) last
        ∙ take_all 768 (drop (record_at (1 + n)) file) (omega (arith, place_is (1 + n), length-drop (record_at (1 + n)) file))

    joined_is : file ≡ file_of (slot_at file 0) (slots_from file 1 n) (slot_at file (n + 1))
    unfolding slot_at
    joined_is =
        sym (take-append-drop 256 file)
        ∙ ap (λ (l : List ℕ). take 256 file ++ l)
        (sym (slots_then 1 n (omega arith)) ∙ ap (λ (l : List ℕ). joined (slots_from file 1 n) ++ l) (sym z_left))

pub made : (file : List ℕ) (n : ℕ) → Fit file n → MadeOf file (slot_at file 0) (slots_from file 1 n) (slot_at file (n + 1))
made file n fit = (
  record {
    q_size = q_long file n fit.long;
    t_size = slots_long file n fit.long 1 n (omega arith) (omega arith);
    z_size = z_long file n fit.long;
  },
  joined_is file n fit.long,
)
