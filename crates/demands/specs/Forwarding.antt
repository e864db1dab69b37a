-- Demand 2: "The forwarded file is the sound file with each text character replaced by the table, and the notes list
-- every changed character once, by rising place." (RULES 10.1, 10.2) And when prepare forwards, by document 01: it
-- "reads soundness, then 60, then 61, each only in that case; record 0 for both and for success" (RULES 9.4). Document 02,
-- A2: "under a fixed code page and fixed lists". Of prepare it is the strict way here; of the default way see Sorting.
use Rattle.std.specs.Prelude.{ℕ, ◌+◌, ◌*◌, ◌/◌, ◌≤◌, ◌<◌, ◌≡◌, true, false, List, ◌↔◌, length, get_or, take, drop}
use Rattle.charset.specs.Table.{rep}
use Rattle.judge.specs.Verdict.{JudgedAs}
use Rattle.judge.specs.declared.Verdict.{Verdict}
use Rattle.forwarding.specs.Text.{text_at}
use Rattle.forwarding.specs.RoundTrip.{Bytes}
use Rattle.prepare.specs.Prepared.{PreparedAs}
use Rattle.prepare.specs.declared.Prepared.{Prepared}
use Rattle.demands.specs.Page.{Page}
use Rattle.demands.specs.Settled.{Settled}
use Rattle.demands.specs.Demand2.{Sound}

module _ (page : ℕ) (file : List ℕ) where
  -- each text character replaced, and nothing else changed
  pub record Replaced (sent : List ℕ) : Type 0 where
    pub long : length sent ≡ length file
    pub in_text : (i : ℕ) → i < length file → text_at (length file) i ≡ true → get_or sent i 0 ≡ rep page (get_or file i 0)
    pub elsewhere : (i : ℕ) → i < length file → text_at (length file) i ≡ false → get_or sent i 0 ≡ get_or file i 0

  -- the character at place i is changed
  pub record Changed (i : ℕ) : Type 0 where
    pub below : i < length file
    pub in_text : text_at (length file) i ≡ true
    pub other : rep page (get_or file i 0) ≡ get_or file i 0 → ⊥

  -- every changed character, with its original byte, and nothing else; each once, since places rise
  pub record Listed (notes : List ℕ) : Type 0 where
    pub every : (i : ℕ) → Changed i → (k : ℕ) × (k < length notes) × (get_or notes k 0 ≡ i * 256 + get_or file i 0)
    pub only : (k : ℕ) → k < length notes → (i : ℕ) × Changed i × (get_or notes k 0 ≡ i * 256 + get_or file i 0)
    pub rising : (j k : ℕ) → j < k → k < length notes → get_or notes j 0 / 256 < get_or notes k 0 / 256

-- there is one such file, and one such list
abbrev pub ForwardedIsOne : Type 0
ForwardedIsOne = (page : ℕ) (file : List ℕ) → Settled (λ (sent : List ℕ). Replaced page file sent)

abbrev pub NotesAreOne : Type 0
NotesAreOne = (page : ℕ) (file : List ℕ) → Bytes file → Settled (λ (notes : List ℕ). Listed page file notes)

-- what prepare leaves where it answers 0: "the output begins with the forwarded file and the rest of it keeps its bytes; the
-- note places begin with the notes and the rest keep their numbers"
pub record Sent (page : ℕ) (file transfer cheque out notes out' notes' : List ℕ) (count : ℕ) : Type 0 where
  pub sound : Sound page transfer cheque file
  pub output : Replaced page file (take (length file) out')
  pub output_rest : drop (length file) out' ≡ drop (length file) out
  pub counted : count ≤ length notes'
  pub noted : Listed page file (take count notes')
  pub notes_rest : drop count notes' ≡ drop count notes

abbrev pub Forwards : Type 0
Forwards =
    (page : ℕ) (file transfer cheque out notes out' notes' : List ℕ) (answer : Prepared)
    → Bytes file → PreparedAs page file transfer cheque out notes answer out' notes' → answer.number ≡ 0
    → Sent page file transfer cheque out notes out' notes' answer.notes

-- what prepare answers, where `changes` are the notes of the file's changed characters
module _ (page : ℕ) (file transfer cheque out notes changes : List ℕ) (answer : Prepared) where
  pub record Exactly : Type 0 where
    pub done : (answer.number ≡ 0)
        ↔ (Sound page transfer cheque file × (length file ≤ length out) × (length changes ≤ length notes))
    pub no_room : (answer.number ≡ 60) ↔ (Sound page transfer cheque file × (length out < length file))
    pub no_places : (answer.number ≡ 61)
        ↔ (Sound page transfer cheque file × (length file ≤ length out) × (length notes < length changes))
    pub record_0 : Sound page transfer cheque file → answer.rec ≡ 0
    pub noted : answer.number ≡ 0 → answer.notes ≡ length changes
    pub none_noted : (answer.number ≡ 0 → ⊥) → answer.notes ≡ 0

abbrev pub PrepareExactly : Type 0
PrepareExactly =
    (page : ℕ) (file transfer cheque out notes out' notes' changes : List ℕ) (answer : Prepared)
    → Page page → Bytes file → Listed page file changes → PreparedAs page file transfer cheque out notes answer out' notes'
    → Exactly page file transfer cheque out notes changes answer

-- an unsound file gets the judge's number and record
abbrev pub PrepareAsJudged : Type 0
PrepareAsJudged =
    (page : ℕ) (file transfer cheque taken out notes out' notes' : List ℕ) (answer : Prepared) (verdict : Verdict)
    → PreparedAs page file transfer cheque out notes answer out' notes' → JudgedAs page file transfer cheque taken verdict
    → (Sound page transfer cheque file → ⊥) → (answer.number ≡ verdict.number) × (answer.rec ≡ verdict.rec)
