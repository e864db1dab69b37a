-- Document 01, "What each call answers" (RULES 9.5): "Restore: 60 first, then 70, record 0 for both. If 0, the output
-- begins with the original, the rest of it keeps its bytes, and the record is 0. All lent notes count." On the code page
-- that the caller names (document 02, A2).
use Rattle.std.specs.Prelude.{ℕ, ◌≡◌, Bool, ◌&&◌, cond, List, eqb, ltb, length}
use Rattle.charset.specs.Table.{is_page}
use Rattle.judge.specs.Verdict.{verdict_of}
use Rattle.forwarding.specs.Merge.{original_of, is_pair}
use Rattle.forwarding.specs.Put.{put}
use Rattle.restore.specs.declared.Restored.{Restored}

abbrev pub answer : ℕ → Restored
answer number = record { number = number; rec = 0 }

-- 70 is "no sound file yields this pair". A file and its forwarded file are judged alike, so the forwarded file is judged
unfoldable pub is_yielded : ℕ → List ℕ → List ℕ → List ℕ → List ℕ → Bool
is_yielded page forwarded notes transfer cheque =
    eqb (verdict_of page forwarded transfer cheque).number 0 && is_pair page forwarded notes

-- "60 first, then 70, record 0 for both"; 60 is "output room shorter than the file"
abbrev pub restore_by : ℕ → List ℕ → List ℕ → List ℕ → List ℕ → ℕ → Restored
restore_by page forwarded notes transfer cheque room =
    cond (ltb room (length forwarded)) (answer 60)
    (cond (is_yielded page forwarded notes transfer cheque) (answer 0) (answer 70))

-- Document 02, A2: "any other page number is 7, record and offset 0, before every other number" (RULES 8)
unfoldable pub restore_of : ℕ → List ℕ → List ℕ → List ℕ → List ℕ → ℕ → Restored
restore_of page forwarded notes transfer cheque room =
    cond (is_page page) (restore_by page forwarded notes transfer cheque room) (answer 7)

-- "If 0, the output begins with the original, the rest of it keeps its bytes"; else it keeps them all
abbrev pub restored_into : Restored → List ℕ → List ℕ → List ℕ → List ℕ
restored_into given forwarded notes out = cond (eqb given.number 0) (put 0 (original_of forwarded notes) out) out

-- what is promised of restoring: the answer and the output, for every input
pub record RestoredAs (page : ℕ) (forwarded notes transfer cheque out : List ℕ) (given : Restored) (out' : List ℕ) : Type 0 where
  pub answer_is : given ≡ restore_of page forwarded notes transfer cheque (length out)
  pub out_is : out' ≡ restored_into given forwarded notes out
