-- The answer and the output by what the call found: the page, the room, the verdict, what is left to replace, and the notes.
use Rattle.std.specs.Prelude.{ℕ, ◌+◌, ◌≤◌, ◌<◌, ◌≡◌, refl, Bool, true, false, not, ◌&&◌, List, [], ◌++◌, eqb, length, drop, Result, Ok, Err, IfErr, is_ok}
use Rattle.std.proofs.Common.{sym, ap, ◌∙◌, arith, ne_eqb, length-append}
use Rattle.std.proofs.lemmas.Bool.{not-true, not-false}
use Rattle.laws.specs.Choice.{on, off, off_eq, on_lt, off_lt, on_call, off_call, both}
use Rattle.charset.specs.Table.{is_page, rep, rep_rep}
use Rattle.judge.specs.Refusal.{number_of, verdict_in}
use Rattle.judge.specs.Verdict.{verdict_of}
use Rattle.judge.specs.declared.Refusal.{Refusal}
use Rattle.judge.specs.declared.Totals.{Totals}
use Rattle.judge.specs.declared.Verdict.{Verdict}
use Rattle.forwarding.specs.Text.{text_at}
use Rattle.forwarding.specs.Forwarded.{notes_of}
use Rattle.forwarding.specs.Merge.{original_of, is_pair}
use Rattle.forwarding.specs.Put.{put}
use Rattle.forwarding.specs.RoundTrip.{pair_alone}
use Rattle.forwarding.specs.Sized.{Sized}
use Rattle.prepare.specs.Outcome.{sound_sized}
use Rattle.restore.specs.ByNotes.{notes_fit, put_notes, in_file, accepts_by_notes, merged_by_notes, notes_inside, inside_more, notes_in_front, notes_length}
use Rattle.restore.specs.Restored.{answer, is_yielded, restore_by, restore_of, RestoredAs}
use Rattle.restore.specs.declared.Restored.{Restored}

-- a file is sound where an examination finds no refusal
pub sound_is : (found : Result Totals Refusal) → IfErr found (λ why. number_of why ≡ 0 → ⊥) → is_ok found ≡ eqb (verdict_in found).number 0
sound_is (Ok t) real = refl
sound_is (Err why) real = sym (ne_eqb _ _ real)

pub sound_size : (page : ℕ) (g transfer cheque : List ℕ) (found : Result Totals Refusal) → verdict_in found ≡ verdict_of page g transfer cheque
    → is_ok found ≡ true → Sized g
sound_size page g transfer cheque (Ok t) e sound = sound_sized page g transfer cheque e refl
sound_size page g transfer cheque (Err why) e sound = cc

-- whether a sound file yields the pair: it is sound, no character is left to replace, and the notes fit
module _ (page : ℕ) (g ns transfer cheque : List ℕ) where
  pair_is : is_pair page g ns ≡ is_pair page g [] && notes_fit (rep page) (text_at (length g)) g 0 ns
  unfolding is_pair
  pair_is = accepts_by_notes (rep page) (text_at (length g)) g (rep_rep page) ns

  pub yielded_is : is_yielded page g ns transfer cheque
      ≡ eqb (verdict_of page g transfer cheque).number 0 && (eqb (length (notes_of page g)) 0 && notes_fit (rep page) (text_at (length g)) g 0 ns)
  unfolding is_yielded
  yielded_is = rw (pair_is, pair_alone page g)

  -- the same by what was found: v is the verdict, none whether no character is left to replace, fit whether the notes fit
  module _ {v : Verdict} (e : v ≡ verdict_of page g transfer cheque) where
    number_is : v.number ≡ (verdict_of page g transfer cheque).number
    number_is = ap (λ (u : Verdict). u.number) e

    pub by_verdict : (v.number ≡ 0 → ⊥) → false ≡ is_yielded page g ns transfer cheque
    unfolding is_yielded
    by_verdict z = sym (ap (λ (t : Bool). t && is_pair page g ns) (ne_eqb _ _ (λ q. z (number_is ∙ q))))

    module _ (z : v.number ≡ 0) {none : Bool} (left : (p : ℕ) → none ≡ eqb (length (notes_of p g)) 0) where
      found_is : {t : Bool} → none ≡ t → t && notes_fit (rep page) (text_at (length g)) g 0 ns ≡ is_yielded page g ns transfer cheque
      found_is q = sym (yielded_is ∙ rw (sym number_is ∙ z, sym (left page), q) refl)

      pub by_changes : not none ≡ true → false ≡ is_yielded page g ns transfer cheque
      by_changes q = found_is (not-true none q)

      pub by_notes : {fit : Bool} → not none ≡ false → fit ≡ notes_fit (rep page) (text_at (length g)) g 0 ns → fit ≡ is_yielded page g ns transfer cheque
      by_notes q f = f ∙ found_is (not-false none q)

  -- then the notes are about places of the file, and put back they give the original
  module _ (y : is_yielded page g ns transfer cheque ≡ true) where
    notes_all_fit : notes_fit (rep page) (text_at (length g)) g 0 ns ≡ true
    unfolding is_yielded
    notes_all_fit =
        let p = (both (eqb (verdict_of page g transfer cheque).number 0) (is_pair page g ns) y).1 in
        (both (is_pair page g []) (notes_fit (rep page) (text_at (length g)) g 0 ns) (sym pair_is ∙ p)).1

    pub notes_in_file : in_file (length g) ns ≡ true
    notes_in_file = notes_inside (rep page) (text_at (length g)) g 0 ns notes_all_fit

    original_is : put_notes g ns ≡ original_of g ns
    unfolding original_of
    original_is = sym (merged_by_notes (rep page) (text_at (length g)) g ns notes_all_fit)

-- the answer: there is whether the page exists
module _ (page : ℕ) (g ns transfer cheque out : List ℕ) {there : Bool} (known : there ≡ is_page page) where
  keeps : (n : ℕ) → (n ≡ 0 → ⊥) → answer n ≡ restore_of page g ns transfer cheque (length out)
      → RestoredAs page g ns transfer cheque out (answer n) out
  keeps n z e = record { answer_is = e; out_is = off_eq _ z refl }

  pub no_page : there ≡ false → RestoredAs page g ns transfer cheque out (answer 7) out
  unfolding restore_of
  no_page n = keeps 7 (λ z. omega arith) (off_call _ known n refl)

  module _ (named : there ≡ true) where
    on_page : {r : Restored} → r ≡ restore_by page g ns transfer cheque (length out) → r ≡ restore_of page g ns transfer cheque (length out)
    unfolding restore_of
    on_page h = on_call (answer 7) known named h

    pub too_short : length out < length g → RestoredAs page g ns transfer cheque out (answer 60) out
    too_short h = keeps 60 (λ z. omega arith) (on_page (on_lt _ h refl))

    module _ (room : length g ≤ length out) {t : Bool} (e : t ≡ is_yielded page g ns transfer cheque) where
      pub refuses : t ≡ false → RestoredAs page g ns transfer cheque out (answer 70) out
      refuses y = keeps 70 (λ z. omega arith) (on_page (off_lt _ room (off _ (sym e ∙ y) refl)))

      pub restores : {out' : List ℕ} → t ≡ true → out' ≡ put 0 (put_notes g ns) out → RestoredAs page g ns transfer cheque out (answer 0) out'
      restores y h =
          let yes = sym e ∙ y in
          record {
            answer_is = on_page (off_lt (answer 60) room (on (answer 70) yes refl));
            out_is = h ∙ ap (λ (s : List ℕ). put 0 s out) (original_is page g ns transfer cheque yes);
          }

-- what is written: the file is copied to the front, and the notes are put back
module _ (g ns out : List ℕ) (inside_file : in_file (length g) ns ≡ true) {front : List ℕ} (copied : front ≡ g) where
  copied_is : front ++ drop (length g) out ≡ g ++ drop (length g) out
  copied_is = ap (λ (s : List ℕ). s ++ drop (length g) out) copied

  pub copy_holds : in_file (length (front ++ drop (length g) out)) ns ≡ true
  copy_holds =
      let long = length-append g (drop (length g) out) in
      inside_more (length g) (length (front ++ drop (length g) out)) ns (omega (arith, ap length copied_is, long)) inside_file

  pub written : {out' : List ℕ} → out' ≡ put_notes (front ++ drop (length g) out) ns → out' ≡ put 0 (put_notes g ns) out
  written h =
      let long : length g ≡ 0 + length (put_notes g ns) = omega (arith, notes_length ns g) in
      h ∙ ap (λ (s : List ℕ). put_notes s ns) copied_is ∙ notes_in_front ns g (drop (length g) out) inside_file
      ∙ ap (λ (n : ℕ). put_notes g ns ++ drop n out) long
