-- Each of the four programs fails at one of the samples.
use Prim.Native.Nat.{ℕ, zero, suc, ◌+◌, ◌≤◌, ◌<◌}
use mathlib.Core.Path.{◌≡◌, refl, sym, ap, ap₂, ◌∙◌}
use mathlib.Core.Bool.{Bool, true, false}
use mathlib.Core.List.{List, [], ◌∷◌}
use mathlib.Core.Logic.{inl, inr}
use native.Mathlib.Nat.{le_refl}
use native.Mathlib.Omega.{arith}
use borrow.Author.Tests.{eqb-true, eqb-false, leb-true, leb-false, ltb-true}
use lib.Dec.{eqb, leb, ltb, lit<}
use lib.ListN.{length, get_or, take}
use Rattle.laws.specs.Choice.{both, either}
use Rattle.fields.specs.Class.{every}
use Rattle.fields.specs.Lists.{is_taken}
use Rattle.rules.specs.Faults.{by_number, q_rules, z_rules, q_fault, z_fault}
use Rattle.payments.specs.Rules.{key_of}
use Rattle.payments.specs.Faults.{t_rules, t_fault}
use Rattle.structure.specs.Slots.{slot_at}
use Rattle.structure.specs.Fits.{Fit, fits}
use Rattle.judge.specs.Sums.{euro_sum}
use Rattle.judge.specs.Content.{fault_of}
use Rattle.judge.specs.ByKind.{of_q, of_t, of_z}
use Rattle.judge.specs.Verdict.{verdict_of}
use Rattle.judge.specs.declared.Verdict.{Verdict}
use Rattle.forwarding.specs.Forwarded.{notes_of}
use Rattle.forwarding.specs.RoundTrip.{Bytes}
use Rattle.demands.specs.Page.{Page}
use Rattle.demands.specs.Sample.{transfer, cheque}
use Rattle.demands.specs.Demand1.{FileRule}
use Rattle.demands.specs.Demand2.{Sound, Judges}
use Rattle.demands.specs.ShutOut.{BrokenLater, RefusesAll, FindsAllSound, WavesThrough, OnlyCopies}
use Rattle.demands.proofs.Cases.{noted, blanked, quiet, Found, found, due, cases_hold}
use Rattle.demands.proofs.Ranges.{t_range}
use Rattle.demands.proofs.Demand1.{broken_rule}
use Rattle.demands.proofs.Demand2.{judged, broken_in}
use Rattle.demands.proofs.Forwarding.{listed, listed_one}

-- no rule has number 0, so an unsound file is not told 0
rule_real : (n : ℕ) → FileRule n → 1 ≤ n
rule_real n (inl r) = r.0
rule_real n (inr (inl r)) = omega (arith, r.0)
rule_real n (inr (inr (inl r))) = omega (arith, r.0)
rule_real n (inr (inr (inr r))) = omega (arith, r.0)

not_told_0 : (page : ℕ) (file : List ℕ) (number : ℕ) (answer : Verdict) → (verdict_of page file transfer cheque).number ≡ number → 0 < number
    → Judges page transfer cheque [] file answer → answer.number ≡ 0 → ⊥
not_told_0 page file number answer e some promise z =
    let unsound : Sound page transfer cheque file → ⊥ = λ s. omega (arith, e, (judged page transfer cheque file).sound.1 s, some) in
    let first = (promise.unsound unsound).0 in
    omega (arith, z, rule_real answer.number (broken_rule page file transfer cheque answer.number answer.rec first.turn first.there))

-- rules of which each row says that it holds say 0
quiet_zero : (rows : List (ℕ × ℕ)) → quiet rows ≡ true → (rule : ℕ) → by_number rows rule ≡ 0
quiet_zero [] e rule = refl
quiet_zero (row ∷ rows) e rule =
    let w = both (eqb row.1 0) (quiet rows) e in
    either (λ (n : ℕ). n ≡ 0) (eqb rule row.0) row.1 (by_number rows rule) (eqb-true row.1 0 w.0) (quiet_zero rows w.1 rule)

-- what was computed of the samples, on a page that there is
samples : (page : ℕ) → Page page → found page ≡ due
samples page (inl e) = ap found e ∙ cases_hold.1
samples page (inr e) = ap found e ∙ cases_hold.2

module _ (page : ℕ) (p : Page page) where
  sound_noted : Sound page transfer cheque noted
  sound_noted = (judged page transfer cheque noted).sound.0 (ap (λ (f : Found). f.of_noted) (samples page p))

  q_holds : (rule : ℕ) → 0 ≡ q_fault page (slot_at blanked 0) rule
  unfolding q_fault
  q_holds rule = sym (quiet_zero (q_rules page (slot_at blanked 0)) (ap (λ (f : Found). f.q_quiet) (samples page p)) rule)

  t_holds : (rule : ℕ) → 0 ≡ t_fault page transfer cheque (key_of (slot_at blanked 1)) (slot_at blanked 1) rule
  unfolding t_fault
  t_holds rule =
      sym (quiet_zero (t_rules page transfer cheque (key_of (slot_at blanked 1)) (slot_at blanked 1)) (ap (λ (f : Found). f.t_quiet) (samples page p)) rule)

  z_holds : (rule : ℕ) → 0 ≡ z_fault 2 (euro_sum blanked 2) (slot_at blanked 3) rule
  unfolding z_fault
  z_holds rule = sym (quiet_zero (z_rules 2 (euro_sum blanked 2) (slot_at blanked 3)) (ap (λ (f : Found). f.z_quiet) (samples page p)) rule)

  -- only record 2 breaks a rule, and that a T rule
  later : BrokenLater page transfer cheque blanked
  later m j i b = go (eqb j 0) (eqb j 1) (leb j 2) refl refl refl (broken_in page transfer cheque blanked 2 (omega (arith, fit.long)) fit m j i b)
    where
      fit : Fit blanked 2
      fit = fits blanked 2 (ap (λ (f : Found). f.blanked_shape) (samples page p))

      go : (first second third : Bool) → eqb j 0 ≡ first → eqb j 1 ≡ second → leb j 2 ≡ third
          → (j ≤ 2 + 1) × (fault_of page blanked 2 (euro_sum blanked 2) transfer cheque j m ≡ 0 → ⊥) → (20 ≤ m) × (m ≤ 35) × (2 ≤ j)
      go true second third p q r w =
          absurd (w.1 (sym (of_q page blanked 2 (euro_sum blanked 2) transfer cheque j m 0 (eqb-true j 0 p) refl (q_holds m))))
      go false true third p q r w =
          let at = eqb-true j 1 q in
          absurd
          (w.1
          (sym
          (of_t page blanked 2 (euro_sum blanked 2) transfer cheque j m 0 (eqb-false j 0 p) (omega (arith, at)) refl refl (sym (ap (slot_at blanked) at)) (t_holds m))))
      go false false true p q r w =
          let range =
          t_range page transfer cheque (key_of (slot_at blanked 1)) (slot_at blanked j) m
          (λ z. w.1 (sym (of_t page blanked 2 (euro_sum blanked 2) transfer cheque j m 0 (eqb-false j 0 p) (leb-true j 2 r) refl refl refl (sym z)))) in
          (range.0, omega (arith, range.1), omega (arith, eqb-false j 0 p, eqb-false j 1 q))
      go false false false p q r w =
          let at : j ≡ 3 = omega (arith, w.0, leb-false j 2 r) in
          absurd
          (w.1
          (sym
          (of_z page blanked 2 (euro_sum blanked 2) transfer cheque j m 0 (eqb-false j 0 p) (leb-false j 2 r) (sym (ap (slot_at blanked) at)) (z_holds m))))

pub refuses_all : RefusesAll
unfolding is_taken
refuses_all page judge p never promise = never noted transfer cheque [] ((promise noted transfer cheque []).free (sound_noted page p) refl).0

pub finds_all_sound : FindsAllSound
finds_all_sound page judge p always promise =
    not_told_0 page [] 2 (judge [] transfer cheque []) (ap (λ (f : Found). f.of_empty) (samples page p)) (lit< tt) (promise [] transfer cheque [])
    (always [] transfer cheque [])

pub waves_through : WavesThrough
waves_through page judge p passes promise =
    not_told_0 page blanked 29 (judge blanked transfer cheque []) (ap (λ (f : Found). f.of_blanked) (samples page p)) (lit< tt)
    (promise blanked transfer cheque []) (passes blanked transfer cheque (later page p))

bytes_of : (file : List ℕ) → every (λ (b : ℕ). ltb b 256) file ≡ true → Bytes file
bytes_of [] e k = lit< tt
bytes_of (b ∷ file) e zero = ltb-true b 256 (both (ltb b 256) (every (λ (b : ℕ). ltb b 256) file) e).0
bytes_of (b ∷ file) e (suc k) = bytes_of file (both (ltb b 256) (every (λ (b : ℕ). ltb b 256) file) e).1 k

pub only_copies : OnlyCopies
only_copies page prepare there copies promise =
    let s = samples page there in
    let bytes = bytes_of noted (ap (λ (f : Found). f.noted_bytes) s) in
    let changes = listed page noted bytes in
    let one_note : notes_of page noted ≡ 316198 ∷ [] = ap (λ (f : Found). f.noted_notes) s in
    let one : length (notes_of page noted) ≡ 1 = ap length one_note in
    let p = promise noted transfer cheque noted (0 ∷ []) (notes_of page noted) bytes changes in
    let z = p.0.done.1 (sound_noted page there, le_refl (length noted), omega (arith, one)) in
    let left : ◌≡◌ {A = List ℕ} (0 ∷ []) (316198 ∷ []) =
    ap₂ take (sym one ∙ sym (p.0.noted z)) (sym (copies noted transfer cheque noted (0 ∷ []) z).1)
    ∙ listed_one page noted _ _ (p.1 z).noted changes
    ∙ one_note in
    omega (arith, ap (λ (l : List ℕ). get_or l 0 0) left)
