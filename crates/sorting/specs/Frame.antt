-- A file that fits, with n T records: its records, its kept file's, and record k + 1 among them.
use Rattle.std.specs.Prelude.{ℕ, suc, ◌+◌, ◌-◌, ◌≤◌, ◌<◌, ◌≡◌, List, [], ◌∷◌, ◌++◌, length, get_or, Option}
use Rattle.std.proofs.Common.{refl, sym, ap₂, subst, ◌∙◌, arith, ap}
use Rattle.laws.specs.Found.{nonzero}
use Rattle.laws.specs.Sums.{sum_of}
use Rattle.payments.specs.Rules.{key_of}
use Rattle.records.specs.Places.{record_at}
use Rattle.structure.specs.Slots.{slot_at, place_is, later_width, slot_full, q_long, t_long, z_long, place_in}
use Rattle.structure.specs.Walk.{structure_of}
use Rattle.structure.specs.Fits.{Fit, fits}
use Rattle.structure.specs.Shape.{Shape, Fits}
use Rattle.judge.specs.Sums.{euros}
use Rattle.judge.specs.Records.{file_of, AllLong, Lengths}
use Rattle.judge.specs.Apart.{slots_from, slots_count, made}
use Rattle.forwarding.specs.Sized.{Sized}
use Rattle.forwarding.specs.Turns.{turn, turns, turns_many, turn_is}
use Rattle.sorting.specs.Kept.{first_of, fresh_z, records_by, t_records, rule_in, kept_in, kept_file}
use Rattle.sorting.specs.Lists.{counts_add, kept_long}
use Rattle.sorting.specs.Fresh.{fresh_long}
use Rattle.sorting.specs.Course.{slots_append, records_sized}

module _ (file : List ℕ) (n : ℕ) (e : structure_of file ≡ Fits n) where
  pub fit : Fit file n
  fit = fits file n e

  pub records_are : t_records file ≡ slots_from file 1 n
  unfolding t_records
  records_are = ap (λ (s : Shape). records_by s file) e

  pub records_count : length (t_records file) ≡ n
  records_count = ap length records_are ∙ slots_count file 1 n

  pub z_is : slot_at file (length (t_records file) + 1) ≡ slot_at file (n + 1)
  z_is = ap (λ (m : ℕ). slot_at file (m + 1)) records_count

  pub lengths : Lengths (slot_at file 0) (t_records file) (slot_at file (length (t_records file) + 1))
  lengths =
      let m = (made file n fit).0 in
      record {
        q_size = m.q_size;
        t_size = subst AllLong (sym records_are) m.t_size;
        z_size = ap length z_is ∙ m.z_size;
      }

  pub file_is : file ≡ file_of (slot_at file 0) (t_records file) (slot_at file (length (t_records file) + 1))
  file_is = (made file n fit).1 ∙ ap₂ (file_of (slot_at file 0)) (sym records_are) (sym z_is)

  -- the first k records and the others; of these the first is record k + 1
  pub records_upto : (k : ℕ) → k ≤ n → t_records file ≡ slots_from file 1 k ++ slots_from file (k + 1) (n - k)
  records_upto k l =
      let all : n ≡ k + (n - k) = omega arith in
      let next : 1 + k ≡ k + 1 = omega arith in
      records_are ∙ ap (slots_from file 1) all ∙ slots_append file 1 k (n - k) ∙ ap (λ (j : ℕ). slots_from file 1 k ++ slots_from file j (n - k)) next

  abbrev pub behind : ℕ → List (List ℕ)
  behind k = slots_from file (suc (k + 1)) (n - (k + 1))

  pub records_split : (k : ℕ) → k < n → t_records file ≡ slots_from file 1 k ++ (slot_at file (k + 1) ∷ behind k)
  records_split k l =
      let left : n - k ≡ suc (n - (k + 1)) = omega arith in
      records_upto k (omega arith) ∙ ap (λ (m : ℕ). slots_from file 1 k ++ slots_from file (k + 1) m) left

  pub records_more : (k : ℕ) → slots_from file 1 (k + 1) ≡ slots_from file 1 k ++ (slot_at file (k + 1) ∷ [])
  records_more k =
      let next : 1 + k ≡ k + 1 = omega arith in
      slots_append file 1 k 1 ∙ ap (λ (j : ℕ). slots_from file 1 k ++ (slot_at file j ∷ [])) next

  -- the code finds each record, and each is as long as its kind
  pub found : (k : ℕ) → k ≤ n + 1 → (k ≤ 10000) × (record_at k ≤ length file)
  found k l = (omega (arith, fit.most), place_in file n fit.long k l)

  pub q_found : {q : List ℕ} → q ≡ slot_at file 0 → length q ≡ 256
  q_found p = ap length p ∙ q_long file n fit.long

  pub z_found : {z : List ℕ} → z ≡ slot_at file (n + 1) → length z ≡ 256
  z_found p = ap length p ∙ z_long file n fit.long

  pub t_found : {t : List ℕ} (k : ℕ) → 1 ≤ k → k ≤ n → t ≡ slot_at file k → length t ≡ 768
  t_found k a b p = ap length p ∙ t_long file n fit.long k a b

  -- it finds each record whole
  pub q_there : (0 ≤ 10000) × (record_at 0 ≤ length file) × (length (slot_at file 0) ≡ 256)
  q_there = let f = found 0 (omega arith) in (f.0, f.1, q_found refl)

  pub t_there : (k : ℕ) → 1 ≤ k → k ≤ n → (k ≤ 10000) × (record_at k ≤ length file) × (length (slot_at file k) ≡ 768)
  t_there k a b = let f = found k (omega arith) in (f.0, f.1, t_found k a b refl)

  pub z_there : (n + 1 ≤ 10000) × (record_at (n + 1) ≤ length file) × (length (slot_at file (n + 1)) ≡ 256)
  z_there = let f = found (n + 1) (omega arith) in (f.0, f.1, z_found refl)

  -- and goes over the T records
  abbrev pub sized : Sized file
  sized = record { payments = n; long = fit.long; most = fit.most }

  module _ {ts : List (List ℕ)} (are : ts ≡ turns file) where
    pub turns_count : length ts ≡ n
    turns_count = turns_many sized are

    pub turn_slot : (k : ℕ) → k < n → get_or ts k [] ≡ slot_at file (k + 1)
    turn_slot k l =
        turn_is sized are (omega (arith, turns_count))
        ∙ slot_full file (k + 1) (turn k) 768 (omega (arith, place_is (k + 1))) (sym (later_width (k + 1) (omega arith)))

    -- what is told of such a record by the key that the code found is its first broken rule
    pub turn_told : (page : ℕ) (transfer cheque : List ℕ) (k : ℕ) → k < n → {key first : List ℕ} {o : Option ℕ} → key ≡ key_of first → first ≡ slot_at file 1
        → o ≡ nonzero (first_of page transfer cheque key (get_or ts k [])) → o ≡ nonzero (rule_in page file transfer cheque (slot_at file (k + 1)))
    turn_told page transfer cheque k l p q h = h ∙ ap nonzero (ap₂ (first_of page transfer cheque) (p ∙ ap key_of q) (turn_slot k l))

  -- the kept file's records
  module _ (page : ℕ) (transfer cheque : List ℕ) where
    abbrev rule : List ℕ → ℕ
    rule t = rule_in page file transfer cheque t

    abbrev pub z_of : List ℕ
    z_of = fresh_z (slot_at file (length (t_records file) + 1)) (length (kept_in page file transfer cheque)) (sum_of euros (kept_in page file transfer cheque))

    pub kept_lengths : Lengths (slot_at file 0) (kept_in page file transfer cheque) z_of
    kept_lengths =
        record {
          q_size = lengths.q_size;
          t_size = kept_long rule (t_records file) lengths.t_size;
          z_size = fresh_long (slot_at file (length (t_records file) + 1)) (length (kept_in page file transfer cheque)) (sum_of euros (kept_in page file transfer cheque)) lengths.z_size;
        }

    pub kept_few : length (kept_in page file transfer cheque) ≤ 9999
    kept_few = omega (arith, counts_add rule (t_records file), records_count, fit.most)

    pub kept_sized : Sized (kept_file page file transfer cheque)
    unfolding kept_file
    kept_sized = records_sized (slot_at file 0) (kept_in page file transfer cheque) z_of kept_lengths kept_few
