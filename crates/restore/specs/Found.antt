-- Whether a place is text, and whether a note fits, by what the code found.
use Rattle.std.specs.Prelude.{ℕ, ◌+◌, ◌-◌, ◌/◌, ◌%◌, ◌≤◌, ◌<◌, ◌≡◌, Bool, true, false, ◌&&◌, ◌||◌, not, List, eqb, leb, ltb, length, get_or, drop}
use Rattle.std.proofs.Common.{sym, ap, ◌∙◌, arith, lt-ltb, le-ltb, le-leb, ltb-true}
use Rattle.std.proofs.Math.Bool.{and-false, or-false, or_assoc}
use Rattle.std.proofs.lemmas.Bool.{lt-leb, not-true, not-false}
use Rattle.laws.specs.Choice.{both}
use Rattle.laws.specs.Scan.{run, run_turn, run_end}
use Rattle.laws.specs.Steps.{next}
use Rattle.charset.specs.Table.{rep}
use Rattle.forwarding.specs.Text.{t_texts, lies, textual, text_at}
use Rattle.restore.specs.declared.Note.{Note}
use Rattle.restore.specs.ByNotes.{note_fits, notes_fit, fits}

-- some number from i up to below e passes the test P
abbrev pub any_from : (ℕ → Bool) → ℕ → ℕ → Bool
any_from P i e = run (λ (j : ℕ) (rest : Bool). P j || rest) false i e

-- a loop that carries along whether one did so far, t
module _ (P : ℕ → Bool) (i e : ℕ) (t whole : Bool) where
  pub any_on : i < e → t || any_from P i e ≡ whole → (t || P i) || any_from P (i + 1) e ≡ whole
  any_on h q =
      or_assoc t (P i) (any_from P (i + 1) e) ∙ ap (λ (x : Bool). t || x) (sym (run_turn (λ (j : ℕ) (rest : Bool). P j || rest) false i e h)) ∙ q

  pub any_over : e ≤ i → t || any_from P i e ≡ whole → t ≡ whole
  any_over h q = sym (or-false t) ∙ ap (λ (x : Bool). t || x) (sym (run_end (λ (j : ℕ) (rest : Bool). P j || rest) false i e h)) ∙ q

-- place i of a file of n bytes: in Z or past the end, in Q, in a T record
module _ (n i : ℕ) where
  pub text_past : n ≤ i + 256 → text_at n i ≡ false
  unfolding text_at
  text_past h = rw (le-ltb (i + 256) n h)

  before_z : i + 256 < n → text_at n i ≡ textual i
  unfolding text_at
  before_z h = rw (lt-ltb (i + 256) n h)

  pub text_in_q : i + 256 < n → i < 256 → text_at n i ≡ leb 23 i && ltb i 163
  unfolding textual
  text_in_q h l = before_z h ∙ rw (lt-ltb i 256 l) (or-false _)

  pub text_in_t : i + 256 < n → 256 ≤ i → text_at n i ≡ lies t_texts ((i - 256) % 768)
  unfolding textual
  text_in_t h l = before_z h ∙ rw (le-ltb i 256 l)

  pub text_below : text_at n i ≡ true → i < n
  unfolding text_at
  text_below e = omega (arith, ltb-true (i + 256) n (both (ltb (i + 256) n) (textual i) e).0)

-- a note n about the file g
pub note_on : (page : ℕ) (g : List ℕ) (from b : ℕ) (n : Note) → from ≤ n.place → text_at (length g) n.place ≡ true → b ≡ rep page n.byte
    → not (eqb b n.byte) && eqb b (get_or g n.place 0) ≡ fits (rep page) (text_at (length g)) g from n
note_on page g from b n h e p =
    rw (p, le-leb from n.place h, lt-ltb n.place (length g) (text_below (length g) n.place e), e)

-- a note v about the file g
module _ (page : ℕ) (g : List ℕ) (from v : ℕ) where
  pub note_before : v / 256 < from → false ≡ note_fits (rep page) (text_at (length g)) g from v
  note_before h = rw (lt-leb from (v / 256) h)

  pub note_off : {t : Bool} → from ≤ v / 256 → t ≡ text_at (length g) (v / 256) → not t ≡ true
      → false ≡ note_fits (rep page) (text_at (length g)) g from v
  note_off {t} h e q = rw (sym e ∙ not-true t q, and-false (ltb (v / 256) (length g)), and-false (leb from (v / 256)))

-- a turn over the notes: t is whether the note at j fits
module _ (page : ℕ) (g ns : List ℕ) (from j : ℕ) {t whole : Bool} (h : j < length ns)
    (e : t ≡ note_fits (rep page) (text_at (length g)) g from (get_or ns j 0))
    (inv : notes_fit (rep page) (text_at (length g)) g from (drop j ns) ≡ whole) where
  turn : t && notes_fit (rep page) (text_at (length g)) g (get_or ns j 0 / 256 + 1) (drop (j + 1) ns) ≡ whole
  turn = rw e (rw (next ns j 0 h) at inv)

  pub notes_stop : not t ≡ true → false ≡ whole
  notes_stop q = rw (not-true t q) at turn

  pub notes_on : not t ≡ false → notes_fit (rep page) (text_at (length g)) g (get_or ns j 0 / 256 + 1) (drop (j + 1) ns) ≡ whole
  notes_on q = rw (not-false t q) at turn
