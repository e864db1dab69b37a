-- The reader's state, and what each call makes of it, whatever state is handed in.
use Rattle.std.specs.Prelude.{ℕ, Result, Ok, Err, ◌+◌, min, ◌≡◌, refl, Bool, true, false, ◌&&◌, cond, List, [], ◌∷◌, ◌++◌, eqb, ltb, length, take, replicate}
use Rattle.std.proofs.Common.{ap, ◌∙◌}
use Rattle.laws.specs.Choice.{on_eq, off_eq, on_call, off_call}
use Rattle.charset.specs.Table.{is_page}
use Rattle.fields.specs.Lists.{is_taken}
use Rattle.structure.specs.Slots.{width_at}
use Rattle.judge.specs.Verdict.{refused}
use Rattle.judge.specs.Refusal.{verdict_in}
use Rattle.judge.specs.declared.Refusal.{Refusal}
use Rattle.judge.specs.declared.Totals.{Totals}
use Rattle.judge.specs.declared.Verdict.{Verdict}
use Rattle.forwarding.specs.Put.{put}
use Rattle.tally.specs.declared.Tally.{Tally}
use Rattle.tally.specs.Settle.{fresh, settle_of, is_steady}
use Rattle.tally.specs.Conclude.{conclude_of}
use Rattle.reader.specs.Cuts.{Cut}
use Rattle.reader.specs.declared.Answer.{Answer}
use Rattle.reader.specs.declared.Reader.{Reader}
use Rattle.reader.specs.declared.Read.{Read}

abbrev pub answered : Verdict → ℕ → Answer
answered verdict changes = record { verdict = verdict; changes = changes }

unfoldable pub new_of : ℕ → Reader
new_of page =
    record { page = page; ended = 0; bytes = 0; tally = fresh; answer = answered (refused 0 0 0) 0; have = 0; held = replicate 768 0 }

-- the bytes so far, up to one more than a file may have
abbrev pub counted_of : ℕ → ℕ → ℕ
counted_of bytes more = min 7679745 (bytes + more)

-- what the whole records have shown, and the bytes of the unfinished one
pub record Mid : Type 0 where
  pub tally : Tally
  pub pending : List ℕ

abbrev pub mid : Tally → List ℕ → Mid
mid tally pending = record { tally = tally; pending = pending }

-- one byte more: it joins the unfinished record, and where this then fills its slot, the record is settled; where the walk
-- has stopped, nothing changes
abbrev pub push : ℕ → List ℕ → List ℕ → Mid → ℕ → Mid
push page transfer cheque m x =
    cond (eqb m.tally.stop 0)
    (cond (eqb (length m.pending + 1) (width_at m.tally.next))
    (mid (settle_of page transfer cheque m.tally (m.pending ++ (x ∷ []))) [])
    (mid m.tally (m.pending ++ (x ∷ []))))
    m

-- byte by byte
unfoldable pub eat : ℕ → List ℕ → List ℕ → Mid → List ℕ → Mid
eat page transfer cheque m [] = m
eat page transfer cheque m (x ∷ xs) = eat page transfer cheque (push page transfer cheque m x) xs

abbrev pub pending : Reader → List ℕ
pending r = take r.have r.held

abbrev pub view : Reader → Mid
view r = mid r.tally (pending r)

abbrev pub packed : Reader → Mid → Reader
packed r m =
    record {
      page = r.page;
      ended = r.ended;
      bytes = r.bytes;
      tally = m.tally;
      answer = r.answer;
      have = length m.pending;
      held = put 0 m.pending r.held;
    }

abbrev pub with_bytes : Reader → ℕ → Reader
with_bytes r bytes =
    record {
      page = r.page;
      ended = r.ended;
      bytes = bytes;
      tally = r.tally;
      answer = r.answer;
      have = r.have;
      held = r.held;
    }

-- what every reading keeps: the sums are of its records, and the unfinished record does not fill its slot
abbrev pub in_order : Tally → ℕ → Bool
in_order tally have = is_steady tally && ltb have (width_at tally.next)

-- a cut changes nothing after the end, nor in a state that is not in order
unfoldable pub fed_of : Reader → List ℕ → List ℕ → List ℕ → Reader
fed_of r cut transfer cheque =
    cond (eqb r.ended 0)
    (cond (in_order r.tally r.have) (packed (with_bytes r (counted_of r.bytes (length cut))) (eat r.page transfer cheque (view r) cut)) r)
    r

unfoldable pub judged_of : Reader → Verdict
judged_of r =
    cond (is_page r.page) (cond (in_order r.tally r.have) (conclude_of r.page r.tally r.bytes (pending r)) (refused 2 0 0)) (refused 7 0 0)

abbrev pub or_taken_by : Verdict → ℕ → ℕ → List ℕ → Answer
or_taken_by v number changes taken =
    cond (eqb v.number 0) (cond (is_taken taken number) (answered (refused 50 0 0) 0) (answered v changes)) (answered v 0)

unfoldable pub found_of : Reader → List ℕ → Answer
found_of r taken = or_taken_by (judged_of r) r.tally.number r.tally.changes taken

-- the answer that an end comes to: the changes are those of a sound file
abbrev pub answer_in : ℕ → Result Totals Refusal → Answer
answer_in changes (Ok t) = answered (verdict_in (Ok t)) changes
answer_in changes (Err r) = answered (verdict_in (Err r)) 0

abbrev pub ended_by : Reader → Answer → Reader
ended_by r answer =
    record { page = r.page; ended = 1; bytes = r.bytes; tally = r.tally; answer = answer; have = r.have; held = r.held }

abbrev pub read_of : Reader → Answer → Read
read_of r answer = record { reader = r; answer = answer }

unfoldable pub end_of : Reader → List ℕ → Read
end_of r taken = cond (eqb r.ended 0) (read_of (ended_by r (found_of r taken)) (found_of r taken)) (read_of r r.answer)

-- what is promised of a new reader, of a cut and of an end
abbrev pub NewAs : ℕ → Reader → Type 0
NewAs page r = r ≡ new_of page

abbrev pub FedAs : Reader → List ℕ → List ℕ → List ℕ → Reader → Type 0
FedAs r cut transfer cheque next = next ≡ fed_of r cut transfer cheque

abbrev pub EndedAs : Reader → List ℕ → Read → Type 0
EndedAs r taken read = read ≡ end_of r taken

-- cut after cut, each as is promised
abbrev pub FedTo : Reader → List Cut → Reader → Type 0
FedTo r [] last = last ≡ r
FedTo r (cut ∷ cuts) last = (next : Reader) × FedAs r cut.bytes cut.transfer cut.cheque next × FedTo next cuts last

pub new_is : (page : ℕ) {tally : Tally} {answer : Answer} → tally ≡ fresh → answer ≡ answered (refused 0 0 0) 0
    → record { page = page; ended = 0; bytes = 0; tally = tally; answer = answer; have = 0; held = replicate 768 0 } ≡ new_of page
unfolding new_of
new_is page p q i =
    record { page = page; ended = 0; bytes = 0; tally = p i; answer = q i; have = 0; held = replicate 768 0 }

-- the answer at the end by what was found: v is the verdict, t whether the file's number is taken
module _ (r : Reader) (taken : List ℕ) {v : Verdict} (e : v ≡ judged_of r) where
  by_verdict : {a : Answer} → a ≡ or_taken_by v r.tally.number r.tally.changes taken → a ≡ found_of r taken
  unfolding found_of
  by_verdict h = h ∙ ap (λ (u : Verdict). or_taken_by u r.tally.number r.tally.changes taken) e

  pub found_refused : (v.number ≡ 0 → ⊥) → answered v 0 ≡ found_of r taken
  found_refused z = by_verdict (off_eq _ z refl)

  module _ (z : v.number ≡ 0) {t : Bool} (p : t ≡ is_taken taken r.tally.number) where
    pub found_taken : {a : Answer} → t ≡ true → a ≡ answered (refused 50 0 0) 0 → a ≡ found_of r taken
    found_taken y h = by_verdict (on_eq _ z (on_call _ p y h))

    pub found_free : t ≡ false → answered v r.tally.changes ≡ found_of r taken
    found_free y = by_verdict (on_eq _ z (off_call _ p y refl))
