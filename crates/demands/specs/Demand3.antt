-- Demand 3: "Two different sound files never share forwarded file and notes. Restore accepts a pair exactly when some
-- sound file yields it, and gives back that very file. The forwarded file is sound and yields itself, with no notes."
-- (RULES 10) Document 02, A2: "under a fixed code page and fixed lists", which every statement below is given first.
use Rattle.std.specs.Prelude.{ℕ, ◌≤◌, ◌<◌, ◌≡◌, List, [], ◌↔◌, length, take}
use Rattle.forwarding.specs.Put.{put}
use Rattle.forwarding.specs.RoundTrip.{Bytes}
use Rattle.prepare.specs.Prepared.{PreparedAs}
use Rattle.prepare.specs.declared.Prepared.{Prepared}
use Rattle.restore.specs.Yields.{SoundOrigin}
use Rattle.restore.specs.Restored.{RestoredAs}
use Rattle.restore.specs.declared.Restored.{Restored}
use Rattle.demands.specs.Page.{Page}
use Rattle.demands.specs.Demand2.{Sound}
use Rattle.demands.specs.Forwarding.{Replaced, Listed}

module _ (page : ℕ) (transfer cheque : List ℕ) where
  -- a sound file that yields the forwarded file and the notes
  abbrev pub Yields : List ℕ → List ℕ → List ℕ → Type 0
  Yields file sent notes = SoundOrigin page transfer cheque file sent notes

-- which is, in demand 2's words: a sound file of bytes, its text replaced, and its changed characters listed
abbrev pub YieldsExactly : Type 0
YieldsExactly =
    (page : ℕ) (transfer cheque file sent notes : List ℕ)
    → Yields page transfer cheque file sent notes
    ↔ (Bytes file × Sound page transfer cheque file × Replaced page file sent × Listed page file notes)

abbrev pub NeverShared : Type 0
NeverShared =
    (page : ℕ) (transfer cheque f g sent notes : List ℕ) → Yields page transfer cheque f sent notes → Yields page transfer cheque g sent notes → f ≡ g

-- what restore answers: "60 first, then 70, record 0 for both" (RULES 9.5)
pub record Accepts (page : ℕ) (transfer cheque sent notes out : List ℕ) (answer : Restored) : Type 0 where
  pub done : (answer.number ≡ 0) ↔ ((length sent ≤ length out) × ((file : List ℕ) × Yields page transfer cheque file sent notes))
  pub no_room : (answer.number ≡ 60) ↔ (length out < length sent)
  pub no_file : (answer.number ≡ 70) ↔ ((length sent ≤ length out) × ((file : List ℕ) → Yields page transfer cheque file sent notes → ⊥))
  pub record_0 : answer.rec ≡ 0

abbrev pub AcceptsExactly : Type 0
AcceptsExactly =
    (page : ℕ) (transfer cheque sent notes out out' : List ℕ) (answer : Restored) → Page page → Bytes sent
    → RestoredAs page sent notes transfer cheque out answer out' → Accepts page transfer cheque sent notes out answer

abbrev pub GivesBack : Type 0
GivesBack =
    (page : ℕ) (transfer cheque file sent notes out out' : List ℕ) (answer : Restored) → Page page → Yields page transfer cheque file sent notes
    → length sent ≤ length out → RestoredAs page sent notes transfer cheque out answer out' → (answer.number ≡ 0) × (out' ≡ put 0 file out)

abbrev pub YieldsItself : Type 0
YieldsItself =
    (page : ℕ) (transfer cheque file sent notes : List ℕ) → Yields page transfer cheque file sent notes → Yields page transfer cheque sent sent []

-- what the strict way of prepare left, restore turns back into the file; of the default way see Sorting `DefaultTurnsBack`
abbrev pub TurnsBack : Type 0
TurnsBack =
    (page : ℕ) (transfer cheque file out notes out' notes' room room' : List ℕ) (prepared : Prepared) (restored : Restored) → Bytes file
    → PreparedAs page file transfer cheque out notes prepared out' notes' → prepared.number ≡ 0
    → RestoredAs page (take (length file) out') (take prepared.notes notes') transfer cheque room restored room' → length file ≤ length room
    → (restored.number ≡ 0) × (room' ≡ put 0 file room)
