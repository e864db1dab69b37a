-- The promise by what the code found: a refusal, which writes nothing, or success.
use Rattle.std.specs.Prelude.{ℕ, ◌+◌, ◌-◌, ◌/◌, ◌≤◌, ◌<◌, ◌≡◌, refl, Bool, true, false, List, ◌++◌, drop, Err}
use Rattle.std.proofs.Common.{sym, ◌∙◌, arith}
use Rattle.std.proofs.Math.Path.{ap}
use Rattle.std.proofs.Math.ListN.{length}
use Rattle.laws.specs.Choice.{on_lt, off_lt, on_eq, off_eq, on_call, off_call}
use Rattle.laws.specs.Steps.{empty}
use Rattle.charset.specs.Table.{is_page}
use Rattle.judge.specs.Verdict.{verdict_of}
use Rattle.judge.specs.declared.Refusal.{Refusal}
use Rattle.judge.specs.declared.Refusal.TheVariants.{OutputRoom, NoteRoom}
use Rattle.judge.specs.Told.{sound_fits}
use Rattle.judge.specs.declared.Verdict.{Verdict}
use Rattle.forwarding.specs.Forwarded.{forwarded, notes_of}
use Rattle.forwarding.specs.Put.{put}
use Rattle.forwarding.specs.Changes.{as_it_is}
use Rattle.forwarding.specs.Most.{text_length, notes_most}
use Rattle.forwarding.specs.Noted.{Noted, noted_none, noted_is}
use Rattle.forwarding.specs.Sized.{Sized}
use Rattle.prepare.specs.Answer.{prepared_in}
use Rattle.prepare.specs.Prepared.{not_prepared, done, send_of, prepare_by, prepare_of, output_after, notes_after, SentAs, PreparedAs}
use Rattle.prepare.specs.declared.Prepared.{Prepared}

-- where there is a place for each character of text, there is one for each note
pub enough_places : (page : ℕ) (file notes : List ℕ) {places : ℕ} → Sized file → places ≡ text_length ((length file - 512) / 768)
    → places ≤ length notes → length (notes_of page file) ≤ length notes
enough_places page file notes s e h =
    let n : (length file - 512) / 768 ≡ s.payments = omega (arith, s.long) in
    omega (arith, e, ap text_length n, notes_most page file s.payments s.long)

-- where nothing changes, the file as it is is the forwarded one, and it has no notes
module _ (page : ℕ) (file out notes : List ℕ) (none : length (notes_of page file) ≡ 0) where
  pub same_output : {front : List ℕ} → front ≡ file → front ++ drop (length file) out ≡ put 0 (forwarded page file) out
  same_output e =
      let from_0 : length file ≡ 0 + length file = omega arith in
      ap (λ (l : List ℕ). l ++ drop (length file) out) e
      ∙ ap (λ (k : ℕ). file ++ drop k out) from_0
      ∙ ap (λ (f : List ℕ). put 0 f out) (sym (as_it_is page file none))

  pub same_notes : Noted (notes_of page file) 0 notes notes 0
  same_notes = noted_is (sym (empty (notes_of page file) none)) (noted_none 0 notes)

-- a refusal has a number
module _ (page : ℕ) (file : List ℕ) {r : Prepared} {number rec : ℕ} (e : r ≡ not_prepared number rec) (some : 0 < number) where
  no_zero : r.number ≡ 0 → ⊥
  no_zero z = omega (arith, ap (λ (r : Prepared). r.number) e)

-- a refusal leaves the output and the note places as they are
module _ (page : ℕ) (file : List ℕ) (number rec : ℕ) (real : number ≡ 0 → ⊥) where
  out_kept : (out : List ℕ) → out ≡ output_after (not_prepared number rec) page file out
  out_kept out = off_eq _ real refl

  notes_kept : (notes : List ℕ) → notes ≡ notes_after (not_prepared number rec) page file notes
  notes_kept notes = off_eq _ real refl

module _ (page : ℕ) (file out notes : List ℕ) where
  refuses : {number rec : ℕ} → (number ≡ 0 → ⊥) → not_prepared number rec ≡ send_of page file out notes
      → SentAs page file out notes (not_prepared number rec) out notes
  refuses {number} {rec} real q =
      record { answer_is = q; out_is = out_kept page file number rec real out; notes_are = notes_kept page file number rec real notes }

  pub sent_60 : {why : Refusal} → (why ≡ OutputRoom) × (length out < length file) → SentAs page file out notes (prepared_in (Err why)) out notes
  unfolding send_of
  sent_60 (e, h) = rw e (refuses (λ z. omega arith) (on_lt _ h refl))

  module _ (room : length file ≤ length out) where
    pub sent_61 : {why : Refusal} → (why ≡ NoteRoom) × (length notes < length (notes_of page file))
        → SentAs page file out notes (prepared_in (Err why)) out notes
    unfolding send_of
    sent_61 (e, h) = rw e (refuses (λ z. omega arith) (off_lt _ room (on_lt _ h refl)))

    pub sent_0 : {n : ℕ} {out' notes' : List ℕ} → length (notes_of page file) ≤ length notes → out' ≡ put 0 (forwarded page file) out
        → Noted (notes_of page file) 0 notes notes' n → SentAs page file out notes (done n) out' notes'
    unfolding send_of
    sent_0 {n} places e noted =
        let all : n ≡ length (notes_of page file) = omega (arith, noted.next_is) in
        record {
          answer_is = off_lt (not_prepared 60 0) room (off_lt (not_prepared 61 0) places (ap done all));
          out_is = e;
          notes_are = noted.places_are;
        }

pub sound_sized : (page : ℕ) (file transfer cheque : List ℕ) {v : Verdict} → v ≡ verdict_of page file transfer cheque → v.number ≡ 0 → Sized file
sound_sized page file transfer cheque e z =
    let f = sound_fits page file transfer cheque (sym (ap (λ (v : Verdict). v.number) e) ∙ z) in
    record { payments = f.0; long = f.2.long; most = f.2.most }

-- the page decides first, then soundness: there is whether the page exists, v the verdict
module _ (page : ℕ) (file transfer cheque out notes : List ℕ) {there : Bool} (known : there ≡ is_page page) where
  stops : {number rec : ℕ} → (number ≡ 0 → ⊥) → not_prepared number rec ≡ prepare_of page file transfer cheque out notes
      → PreparedAs page file transfer cheque out notes (not_prepared number rec) out notes
  stops {number} {rec} real q =
      record { answer_is = q; out_is = out_kept page file number rec real out; notes_are = notes_kept page file number rec real notes }

  pub prepared_no_page : there ≡ false → PreparedAs page file transfer cheque out notes (not_prepared 7 0) out notes
  unfolding prepare_of
  prepared_no_page n = stops (λ z. omega arith) (off_call _ known n refl)

  module _ (named : there ≡ true) {v : Verdict} (e : v ≡ verdict_of page file transfer cheque) where
    by_verdict : {r : Prepared} → r ≡ prepare_by v page file out notes → r ≡ prepare_of page file transfer cheque out notes
    unfolding prepare_of
    by_verdict q = on_call (not_prepared 7 0) known named (q ∙ ap (λ (v : Verdict). prepare_by v page file out notes) e)

    pub prepared_refused : (v.number ≡ 0 → ⊥) → PreparedAs page file transfer cheque out notes (not_prepared v.number v.rec) out notes
    prepared_refused real = stops real (by_verdict (off_eq _ real refl))

    pub prepared_sent : {r : Prepared} {out' notes' : List ℕ} → v.number ≡ 0 → SentAs page file out notes r out' notes'
        → PreparedAs page file transfer cheque out notes r out' notes'
    prepared_sent z s = record { answer_is = by_verdict (on_eq _ z s.answer_is); out_is = s.out_is; notes_are = s.notes_are }
