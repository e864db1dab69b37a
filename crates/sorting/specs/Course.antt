-- Going over a file's records: of T records us, then t, and then vs, t stands in the kept file behind the kept ones of us.
use Rattle.std.specs.Prelude.{ℕ, zero, suc, ◌+◌, ◌*◌, ◌-◌, ◌≤◌, ◌<◌, ◌≡◌, List, [], ◌∷◌, ◌++◌, length, take, drop, get_or}
use Rattle.std.proofs.Common.{sym, ap, ap₂, ◌∙◌, append-nil, arith, length-append}
use Rattle.std.proofs.Math.Seq.{get_or-append_seam}
use Rattle.records.specs.Places.{record_at}
use Rattle.structure.specs.Slots.{slot_at, place_is, later_width}
use Rattle.judge.specs.Records.{file_of, Lengths}
use Rattle.judge.specs.ByRecords.{file_length, slot_t}
use Rattle.judge.specs.Apart.{slots_from}
use Rattle.forwarding.specs.Between.{between}
use Rattle.forwarding.specs.Sized.{z_at, Sized}
use Rattle.sorting.specs.Kept.{kept}
use Rattle.sorting.specs.Lists.{front_kept, front_returned, kept_append}

-- where the record behind m others stands
abbrev pub place_of : ℕ → ℕ
place_of m = 256 + 768 * m

-- a T record as the code lends it
pub slot_between : (file : List ℕ) (m : ℕ) → between (place_of m) (place_of m + 768) file ≡ slot_at file (m + 1)
unfolding slot_at
slot_between file m =
    let wide : place_of m + 768 - place_of m ≡ 768 = omega arith in
    let at : place_of m ≡ record_at (m + 1) = omega (arith, place_is (m + 1)) in
    ap₂ (λ (w a : ℕ). take w (drop a file)) (wide ∙ sym (later_width (m + 1) (omega arith))) at

-- the first k slots, and the others
pub slots_append : (file : List ℕ) (i k m : ℕ) → slots_from file i (k + m) ≡ slots_from file i k ++ slots_from file (i + k) m
slots_append file i zero m =
    let e : 0 + m ≡ m = omega arith in
    let f : i ≡ i + 0 = omega arith in
    ap₂ (slots_from file) f e
slots_append file i (suc k) m =
    let e : suc k + m ≡ suc (k + m) = omega arith in
    let f : suc i + k ≡ i + suc k = omega arith in
    ap (slots_from file i) e
    ∙ ap (λ (l : List (List ℕ)). slot_at file i ∷ l) (slots_append file (suc i) k m ∙ ap (λ (j : ℕ). slots_from file (suc i) k ++ slots_from file j m) f)

-- one record more, behind us
module _ (rule : List ℕ → ℕ) (us : List (List ℕ)) (t : List ℕ) where
  pub kept_more : rule t ≡ 0 → kept rule (us ++ (t ∷ [])) ≡ kept rule us ++ (t ∷ [])
  kept_more e = kept_append rule us (t ∷ []) ∙ ap (λ (l : List (List ℕ)). kept rule us ++ l) (front_kept rule t [] e).0

  pub kept_no_more : (rule t ≡ 0 → ⊥) → kept rule (us ++ (t ∷ [])) ≡ kept rule us
  kept_no_more f =
      kept_append rule us (t ∷ []) ∙ ap (λ (l : List (List ℕ)). kept rule us ++ l) (front_returned rule t [] f).0
      ∙ append-nil (kept rule us)

-- a file by its records is as long as sending asks
module _ (q : List ℕ) (ks : List (List ℕ)) (z : List ℕ) (sized : Lengths q ks z) (few : length ks ≤ 9999) where
  pub records_sized : Sized (file_of q ks z)
  records_sized = record { payments = length ks; long = file_length q ks z sized; most = few }

  pub z_at_place : z_at (file_of q ks z) ≡ place_of (length ks)
  z_at_place = omega (arith, file_length q ks z sized)

-- t, kept behind us: where it stands
module _ (rule : List ℕ → ℕ) (q : List ℕ) (us vs : List (List ℕ)) (t z : List ℕ) (e : rule t ≡ 0)
    (sized : Lengths q (kept rule (us ++ (t ∷ vs))) z) where
  seam : kept rule (us ++ (t ∷ vs)) ≡ kept rule us ++ (t ∷ kept rule vs)
  seam = kept_append rule us (t ∷ vs) ∙ ap (λ (l : List (List ℕ)). kept rule us ++ l) (front_kept rule t vs e).0

  pub kept_below : length (kept rule us) < length (kept rule (us ++ (t ∷ vs)))
  kept_below = omega (arith, ap length seam, length-append (kept rule us) (t ∷ kept rule vs))

  pub kept_here : between (place_of (length (kept rule us))) (place_of (length (kept rule us)) + 768) (file_of q (kept rule (us ++ (t ∷ vs))) z) ≡ t
  kept_here =
      slot_between (file_of q (kept rule (us ++ (t ∷ vs))) z) (length (kept rule us))
      ∙ slot_t q (kept rule (us ++ (t ∷ vs))) z sized (length (kept rule us)) kept_below
      ∙ ap (λ (l : List (List ℕ)). get_or l (length (kept rule us)) []) seam
      ∙ get_or-append_seam (kept rule us) t (kept rule vs) []
