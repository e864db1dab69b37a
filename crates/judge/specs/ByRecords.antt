-- A file by its records: q, the T records ts and z, joined. The closed form finds each of them at its place; the walk
-- finds that the file fits exactly where each head is right; and the file is sound exactly where, besides, each record
-- keeps its own rules, the T records with the first one's key, z with their number and sum.
use Rattle.std.specs.Prelude.{ℕ, zero, suc, ◌+◌, ◌*◌, ◌-◌, ◌≤◌, ◌<◌, ◌≡◌, Bool, true, false, cond, List, [], ◌∷◌, ◌++◌, ◌↔◌, eqb, leb, drop, get_or}
use Prim.Native.Char.{code}
use Rattle.std.proofs.Math.Path.{refl, ap, ap₂}
use Rattle.std.proofs.Common.{sym, subst, ◌∙◌, append_assoc, arith, eqb-true, leb-true, leb-false, ne_eqb, le-leb, length-append, drop_at, take_all, drop-drop}
use Rattle.std.proofs.lemmas.Bool.{eqb-false, lt-leb}
use Rattle.std.proofs.Math.ListN.{length, take}
use Rattle.std.proofs.Math.Seq.{take_at}
use Rattle.laws.specs.Sums.{sum_of}
use Rattle.rules.specs.Faults.{q_fault, z_fault}
use Rattle.payments.specs.Rules.{key_of}
use Rattle.payments.specs.Faults.{t_fault}
use Rattle.records.specs.Places.{record_at}
use Rattle.structure.specs.Slots.{slot_at, place_is, later_width}
use Rattle.structure.specs.Walk.{letter_of, fault_in, structure_of}
use Rattle.structure.specs.Whole.{whole, letter_q, letter_t}
use Rattle.structure.specs.Fits.{WalksOn, Fit, fits, fit_found}
use Rattle.structure.specs.Shape.{Fits}
use Rattle.judge.specs.Content.{fault_of, rule_from, rule_end, content_of, rule_real}
use Rattle.judge.specs.Meaning.{none_broken, complete}
use Rattle.judge.specs.Sums.{total, euros, cents, euro_sum, cent_sum}
use Rattle.judge.specs.Records.{joined, file_of, AllLong, Lengths}
use Rattle.judge.specs.Verdict.{refused, unless, verdict_of}
use Rattle.judge.specs.declared.Verdict.{Verdict}
use Rattle.judge.specs.declared.Breach.{Breach}
use Rattle.judge.specs.Told.{sound_fits, told_fits}
use Rattle.judge.specs.ByKind.{of_q, of_t, of_z}

-- the number of a verdict is that of the first broken rule
unless_number : (b : Breach) (v : Verdict) → v.number ≡ 0 → (unless b v).number ≡ b.number
unless_number b v z = go (eqb b.number 0) refl
  where
    go : (t : Bool) → eqb b.number 0 ≡ t → (cond t v (refused b.number b.rec b.at)).number ≡ b.number
    go true e = z ∙ sym (eqb-true b.number 0 e)
    go false e = refl

-- a sum over records 1 to n from its first on
first_out : (f : ℕ → ℕ) (n : ℕ) → total f (suc n) ≡ f 1 + total (λ (k : ℕ). f (suc k)) n
first_out f zero = omega arith
first_out f (suc n) = omega (arith, first_out f n)

total_is_sum : (g : List ℕ → ℕ) (f : ℕ → ℕ) (ts : List (List ℕ)) → ((k : ℕ) → k < length ts → f (k + 1) ≡ g (get_or ts k []))
    → total f (length ts) ≡ sum_of g ts
total_is_sum g f [] h = refl
total_is_sum g f (t ∷ ts) h =
    first_out f (length ts)
    ∙ ap₂ ◌+◌ (h 0 (omega arith)) (total_is_sum g (λ (k : ℕ). f (suc k)) ts (λ k l. ap f (omega arith) ∙ h (suc k) (omega arith)))

joined_length : (ts : List (List ℕ)) → AllLong ts → length (joined ts) ≡ 768 * length ts
joined_length [] h = refl
joined_length (t ∷ ts) h = length-append t (joined ts) ∙ omega (arith, h.0, joined_length ts h.1)

-- the bytes from the k-th record on
joined_drop : (ts : List (List ℕ)) (z : List ℕ) (k : ℕ) → AllLong ts → k ≤ length ts → drop (768 * k) (joined ts ++ z) ≡ joined (drop k ts) ++ z
joined_drop ts z zero h l = refl
joined_drop [] z (suc k) h l = absurd (omega arith)
joined_drop (t ∷ ts) z (suc k) h l =
    let n : 768 * suc k ≡ 768 + 768 * k = omega arith in
    ap₂ drop n (append_assoc t (joined ts) z)
    ∙ sym (drop-drop (768 * k) 768 (t ++ (joined ts ++ z)))
    ∙ ap (drop (768 * k)) (drop_at t (joined ts ++ z) 768 h.0)
    ∙ joined_drop ts z k h.1 (omega arith)

module _ (q : List ℕ) (ts : List (List ℕ)) (z : List ℕ) (sized : Lengths q ts z) where
  pub file_length : length (file_of q ts z) ≡ 512 + 768 * length ts
  file_length =
      length-append q (joined ts ++ z)
      ∙ omega (arith, length-append (joined ts) z, joined_length ts sized.t_size, sized.q_size, sized.z_size)

  pub slot_q : slot_at (file_of q ts z) 0 ≡ q
  unfolding slot_at
  slot_q = take_at q (joined ts ++ z) 256 sized.q_size

  from_t : (k : ℕ) → k ≤ length ts → slot_at (file_of q ts z) (k + 1) ≡ take 768 (joined (drop k ts) ++ z)
  unfolding slot_at
  from_t k l =
      let at : record_at (k + 1) ≡ 256 + 768 * k = omega (arith, place_is (k + 1)) in
      ap₂ (λ (w a : ℕ). take w (drop a (file_of q ts z))) (later_width (k + 1) (omega arith)) at
      ∙ ap (take 768)
      (sym (drop-drop (768 * k) 256 (file_of q ts z)) ∙ ap (drop (768 * k)) (drop_at q (joined ts ++ z) 256 sized.q_size)
      ∙ joined_drop ts z k sized.t_size l)

  pub slot_t : (k : ℕ) → k < length ts → slot_at (file_of q ts z) (k + 1) ≡ get_or ts k []
  slot_t k l = from_t k (omega arith) ∙ front ts k sized.t_size l
    where
      front : (ts : List (List ℕ)) (k : ℕ) → AllLong ts → k < length ts → take 768 (joined (drop k ts) ++ z) ≡ get_or ts k []
      front [] k h l = absurd (omega arith)
      front (t ∷ ts) zero h l = ap (take 768) (append_assoc t (joined ts) z) ∙ take_at t (joined ts ++ z) 768 h.0
      front (t ∷ ts) (suc k) h l = front ts k h.1 (omega arith)

  pub slot_z : slot_at (file_of q ts z) (length ts + 1) ≡ z
  slot_z = from_t (length ts) (omega arith) ∙ last ts ∙ take_all 768 z (omega (arith, sized.z_size))
    where
      last : (ts : List (List ℕ)) → take 768 (joined (drop (length ts) ts) ++ z) ≡ take 768 z
      last [] = refl
      last (t ∷ ts) = last ts

  total_by_records : (g : List ℕ → ℕ) → total (λ (k : ℕ). g (slot_at (file_of q ts z) k)) (length ts) ≡ sum_of g ts
  total_by_records g = total_is_sum g (λ (k : ℕ). g (slot_at (file_of q ts z) k)) ts (λ k l. ap g (slot_t k l))

  pub sum_by_records : euro_sum (file_of q ts z) (length ts) ≡ sum_of euros ts
  unfolding euro_sum
  sum_by_records = total_by_records euros

  pub cents_by_records : cent_sum (file_of q ts z) (length ts) ≡ sum_of cents ts
  unfolding cent_sum
  cents_by_records = total_by_records cents

  -- each head is right, and there are 1 to 9,999 payments
  pub record Heads : Type 0 where
    pub some : 1 ≤ length ts
    pub most : length ts ≤ 9999
    pub q_head : fault_in 0 q ≡ 0
    pub t_head : (k : ℕ) → k < length ts → fault_in (k + 1) (get_or ts k []) ≡ 0
    pub t_letter : (k : ℕ) → k < length ts → letter_of (get_or ts k []) ≡ code "T"
    pub z_head : fault_in (length ts + 1) z ≡ 0
    pub z_letter : letter_of z ≡ code "Z"

  fault_at : (k : ℕ) {s : List ℕ} → slot_at (file_of q ts z) k ≡ s → fault_in k s ≡ 0 → fault_in k (slot_at (file_of q ts z) k) ≡ 0
  fault_at k e h = ap (fault_in k) e ∙ h

  pub heads_fit : Heads → Fit (file_of q ts z) (length ts)
  heads_fit h =
      record {
        due = λ j l. due j (eqb j 0) refl l;
        right = fault_at (length ts + 1) slot_z h.z_head;
        z = ap letter_of slot_z ∙ h.z_letter;
        some = h.some;
        most = h.most;
        long = file_length;
      }
    where
      no_z_by : {a letter : ℕ} → a ≡ letter → eqb letter (code "Z") ≡ false → a ≡ code "Z" → ⊥
      no_z_by e n q = eqb-false _ _ n (sym e ∙ q)

      due : (j : ℕ) (b : Bool) → eqb j 0 ≡ b → j < length ts + 1 → WalksOn (file_of q ts z) j
      due j true e l =
          let at : j ≡ 0 = eqb-true j 0 e in
          subst (WalksOn (file_of q ts z)) (sym at)
          (record { right = fault_at 0 slot_q h.q_head; no_z = no_z_by (ap letter_of slot_q ∙ q_letter) refl })
        where
          q_letter : letter_of q ≡ code "Q"
          q_letter = letter_q 0 (letter_of q) refl (whole 0 q h.q_head).here
      due j false e l =
          let back : j - 1 + 1 ≡ j = omega (arith, eqb-false j 0 e) in
          let in_ts : j - 1 < length ts = omega (arith, eqb-false j 0 e) in
          subst (WalksOn (file_of q ts z)) back
          (record {
            right = fault_at (j - 1 + 1) (slot_t (j - 1) in_ts) (h.t_head (j - 1) in_ts);
            no_z = no_z_by (ap letter_of (slot_t (j - 1) in_ts) ∙ h.t_letter (j - 1) in_ts) refl;
          })

  pub fit_heads : Fit (file_of q ts z) (length ts) → Heads
  fit_heads f =
      record {
        some = f.some;
        most = f.most;
        q_head = ap (fault_in 0) (sym slot_q) ∙ (f.due 0 (omega arith)).right;
        t_head = λ k l. ap (fault_in (k + 1)) (sym (slot_t k l)) ∙ (f.due (k + 1) (omega arith)).right;
        t_letter = λ k l. ap letter_of (sym (slot_t k l)) ∙ t_letter_at k l;
        z_head = ap (fault_in (length ts + 1)) (sym slot_z) ∙ f.right;
        z_letter = ap letter_of (sym slot_z) ∙ f.z;
      }
    where
      t_letter_at : (k : ℕ) → k < length ts → letter_of (slot_at (file_of q ts z) (k + 1)) ≡ code "T"
      t_letter_at k l =
          let p = f.due (k + 1) (omega arith) in
          letter_t (k + 1) _ (omega arith) (whole (k + 1) (slot_at (file_of q ts z) (k + 1)) p.right).here p.no_z

  -- structure by records
  pub structure_by_records : (structure_of (file_of q ts z) ≡ Fits (length ts)) ↔ Heads
  structure_by_records =
      (λ e. fit_heads (fits (file_of q ts z) (length ts) e), λ h. fit_found (file_of q ts z) (length ts) (heads_fit h))

  -- each record keeps its rules
  pub record Keeps (page : ℕ) (transfer cheque : List ℕ) : Type 0 where
    pub heads : Heads
    pub q_rules : (rule : ℕ) → 10 ≤ rule → rule < 17 → q_fault page q rule ≡ 0
    pub t_rules : (k : ℕ) → k < length ts → (rule : ℕ) → 20 ≤ rule → rule < 36 → t_fault page transfer cheque (key_of (get_or ts 0 [])) (get_or ts k []) rule ≡ 0
    pub z_rules : (rule : ℕ) → 40 ≤ rule → rule < 43 → z_fault (length ts) (sum_of euros ts) z rule ≡ 0

  module _ (page : ℕ) (transfer cheque : List ℕ) where
    F : ℕ → ℕ → ℕ
    F k rule = fault_of page (file_of q ts z) (length ts) (euro_sum (file_of q ts z) (length ts)) transfer cheque k rule

    f_q : (rule : ℕ) → q_fault page q rule ≡ F 0 rule
    unfolding F
    f_q rule = of_q page (file_of q ts z) (length ts) _ transfer cheque 0 rule _ refl (sym slot_q) refl

    f_t : (k rule : ℕ) → k < length ts → t_fault page transfer cheque (key_of (get_or ts 0 [])) (get_or ts k []) rule ≡ F (k + 1) rule
    unfolding F
    f_t k rule l =
        of_t page (file_of q ts z) (length ts) _ transfer cheque (k + 1) rule _ (λ (e : k + 1 ≡ 0). omega arith) (omega arith)
        (sym (slot_t 0 (omega arith))) refl (sym (slot_t k l)) refl

    f_z : (rule : ℕ) → z_fault (length ts) (sum_of euros ts) z rule ≡ F (length ts + 1) rule
    unfolding F
    f_z rule =
        ap (λ (sum : ℕ). z_fault (length ts) sum z rule) (sym sum_by_records)
        ∙ of_z page (file_of q ts z) (length ts) _ transfer cheque (length ts + 1) rule _ (λ (e : length ts + 1 ≡ 0). omega arith) (omega arith) (sym slot_z) refl

    -- what the content walk asks of the records below length ts + 2 is what Keeps says
    abbrev Held : ℕ → Type 0
    Held k = (rule : ℕ) → rule_from (length ts) k ≤ rule → rule < rule_end (length ts) k → F k rule ≡ 0

    keeps_held : Keeps page transfer cheque → (k : ℕ) → k < length ts + 2 → Held k
    keeps_held s k l = go (eqb k 0) (leb k (length ts)) refl refl
      where
        go : (a b : Bool) → eqb k 0 ≡ a → leb k (length ts) ≡ b
            → (rule : ℕ) → cond a 10 (cond b 20 40) ≤ rule → rule < cond a 17 (cond b 36 43) → F k rule ≡ 0
        go true b p q rule lo hi = ap (λ (i : ℕ). F i rule) (eqb-true k 0 p) ∙ sym (f_q rule) ∙ s.q_rules rule lo hi
        go false true p q rule lo hi =
            let back : k ≡ k - 1 + 1 = omega (arith, eqb-false k 0 p) in
            let in_ts : k - 1 < length ts = omega (arith, eqb-false k 0 p, leb-true k (length ts) q) in
            ap (λ (i : ℕ). F i rule) back ∙ sym (f_t (k - 1) rule in_ts) ∙ s.t_rules (k - 1) in_ts rule lo hi
        go false false p q rule lo hi =
            let last : k ≡ length ts + 1 = omega (arith, leb-false k (length ts) q) in
            ap (λ (i : ℕ). F i rule) last ∙ sym (f_z rule) ∙ s.z_rules rule lo hi

    held_keeps : Heads → ((k : ℕ) → k < length ts + 2 → Held k) → Keeps page transfer cheque
    held_keeps h held =
        record {
          heads = h;
          q_rules = λ rule lo hi. f_q rule ∙ held 0 (omega arith) rule lo hi;
          t_rules = λ k l rule lo hi. f_t k rule l ∙ held (k + 1) (omega arith) rule (rw (later k, le-leb (k + 1) (length ts) (omega arith)) lo) (rw (later k, le-leb (k + 1) (length ts) (omega arith)) hi);
          z_rules = λ rule lo hi. f_z rule ∙ held (length ts + 1) (omega arith) rule (rw (later (length ts), past) lo) (rw (later (length ts), past) hi);
        }
      where
        later : (k : ℕ) → eqb (k + 1) 0 ≡ false
        later k = ne_eqb (k + 1) 0 (λ (e : k + 1 ≡ 0). omega arith)

        past : leb (length ts + 1) (length ts) ≡ false
        past = lt-leb (length ts + 1) (length ts) (omega arith)

    content_held : (content_of page (file_of q ts z) (length ts) (euro_sum (file_of q ts z) (length ts)) transfer cheque).number ≡ 0
        → (k : ℕ) → k < length ts + 2 → Held k
    unfolding content_of F
    content_held e = none_broken F (rule_from (length ts)) (rule_end (length ts)) (rule_real (length ts)) (length ts + 2) e

    held_content : ((k : ℕ) → k < length ts + 2 → Held k)
        → (content_of page (file_of q ts z) (length ts) (euro_sum (file_of q ts z) (length ts)) transfer cheque).number ≡ 0
    unfolding content_of F
    held_content h = complete F (rule_from (length ts)) (rule_end (length ts)) (rule_real (length ts)) (length ts + 2) h

    number_is : structure_of (file_of q ts z) ≡ Fits (length ts)
        → (verdict_of page (file_of q ts z) transfer cheque).number
        ≡ (content_of page (file_of q ts z) (length ts) (euro_sum (file_of q ts z) (length ts)) transfer cheque).number
    number_is e =
        ap (λ (v : Verdict). v.number) (sym (told_fits page (file_of q ts z) transfer cheque (length ts) e))
        ∙ unless_number (content_of page (file_of q ts z) (length ts) (euro_sum (file_of q ts z) (length ts)) transfer cheque) _ refl

    -- soundness by records
    pub sound_by_records : ((verdict_of page (file_of q ts z) transfer cheque).number ≡ 0) ↔ Keeps page transfer cheque
    sound_by_records = (to, back)
      where
        to : (verdict_of page (file_of q ts z) transfer cheque).number ≡ 0 → Keeps page transfer cheque
        to v =
            let f = sound_fits page (file_of q ts z) transfer cheque v in
            let same : f.0 ≡ length ts = omega (arith, f.2.long, file_length) in
            let e : structure_of (file_of q ts z) ≡ Fits (length ts) = f.1 ∙ ap Fits same in
            held_keeps (structure_by_records.0 e) (content_held (sym (number_is e) ∙ v))

        back : Keeps page transfer cheque → (verdict_of page (file_of q ts z) transfer cheque).number ≡ 0
        back s = number_is (structure_by_records.1 s.heads) ∙ held_content (keeps_held s)
