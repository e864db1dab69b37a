-- Document 01, "What each call answers": prepare (RULES 9.4), on the code page that the caller names (document 02, A2).
use Rattle.std.specs.Prelude.{ℕ, ◌≡◌, cond, List, eqb, ltb, length}
use Rattle.charset.specs.Table.{is_page}
use Rattle.judge.specs.Verdict.{verdict_of}
use Rattle.judge.specs.declared.Verdict.{Verdict}
use Rattle.forwarding.specs.Forwarded.{forwarded, notes_of}
use Rattle.forwarding.specs.Put.{put}
use Rattle.prepare.specs.declared.Prepared.{Prepared}

-- "The answer gives the number of notes; 0 when refused."
abbrev pub not_prepared : ℕ → ℕ → Prepared
not_prepared number rec = record { number = number; rec = rec; notes = 0 }

abbrev pub done : ℕ → Prepared
done notes = record { number = 0; rec = 0; notes = notes }

-- "then 60, then 61, each only in that case; record 0 for both and for success": of the file to send
unfoldable pub send_of : ℕ → List ℕ → List ℕ → List ℕ → Prepared
send_of page file out notes =
    cond (ltb (length out) (length file)) (not_prepared 60 0)
    (cond (ltb (length notes) (length (notes_of page file))) (not_prepared 61 0) (done (length (notes_of page file))))

-- "reads soundness" before that
abbrev pub prepare_by : Verdict → ℕ → List ℕ → List ℕ → List ℕ → Prepared
prepare_by verdict page file out notes =
    cond (eqb verdict.number 0) (send_of page file out notes) (not_prepared verdict.number verdict.rec)

-- Document 02, A2: "any other page number is 7, record and offset 0, before every other number" (RULES 8)
unfoldable pub prepare_of : ℕ → List ℕ → List ℕ → List ℕ → List ℕ → List ℕ → Prepared
prepare_of page file transfer cheque out notes =
    cond (is_page page) (prepare_by (verdict_of page file transfer cheque) page file out notes) (not_prepared 7 0)

-- "If 0, the output begins with the forwarded file and the rest of it keeps its bytes"; else it keeps them all
abbrev pub output_after : Prepared → ℕ → List ℕ → List ℕ → List ℕ
output_after answer page file out = cond (eqb answer.number 0) (put 0 (forwarded page file) out) out

-- "the note places begin with the notes and the rest keep their numbers"; else they keep them all
abbrev pub notes_after : Prepared → ℕ → List ℕ → List ℕ → List ℕ
notes_after answer page file notes = cond (eqb answer.number 0) (put 0 (notes_of page file) notes) notes

-- what is promised of sending a file, and of preparing one: the answer, the output and the note places, for every input
pub record SentAs (page : ℕ) (file out notes : List ℕ) (answer : Prepared) (out' notes' : List ℕ) : Type 0 where
  pub answer_is : answer ≡ send_of page file out notes
  pub out_is : out' ≡ output_after answer page file out
  pub notes_are : notes' ≡ notes_after answer page file notes

pub record PreparedAs (page : ℕ) (file transfer cheque out notes : List ℕ) (answer : Prepared) (out' notes' : List ℕ) : Type 0 where
  pub answer_is : answer ≡ prepare_of page file transfer cheque out notes
  pub out_is : out' ≡ output_after answer page file out
  pub notes_are : notes' ≡ notes_after answer page file notes
