-- Document 01, "What every promise settles" (RULES 14): "Four programs have to be shut out". A program is what it
-- answers to each input on a code page. Shut out, it does not do what demand 2 says at every input; so it does not meet its
-- promise either. On each page that there is.
use Rattle.std.specs.Prelude.{ℕ, ◌≤◌, ◌≡◌, List, []}
use Rattle.judge.specs.declared.Verdict.{Verdict}
use Rattle.forwarding.specs.Put.{put}
use Rattle.forwarding.specs.RoundTrip.{Bytes}
use Rattle.prepare.specs.declared.Prepared.{Prepared}
use Rattle.demands.specs.Page.{Page}
use Rattle.demands.specs.Broken.{Broken}
use Rattle.demands.specs.Demand2.{Judges}
use Rattle.demands.specs.Forwarding.{Listed, Sent, Exactly}

-- a judge: from file, transfer list, cheque list and taken numbers its answer
abbrev pub Judge : Type 0
Judge = List ℕ → List ℕ → List ℕ → List ℕ → Verdict

abbrev pub NoJudge : ℕ → Judge → Type 0
NoJudge page judge = ((file transfer cheque taken : List ℕ) → Judges page transfer cheque taken file (judge file transfer cheque taken)) → ⊥

-- "the judge that refuses all (demand 2's "exactly")"
abbrev pub RefusesAll : Type 0
RefusesAll =
    (page : ℕ) (judge : Judge) → Page page → ((file transfer cheque taken : List ℕ) → (judge file transfer cheque taken).number ≡ 0 → ⊥)
    → NoJudge page judge

-- "the judge that finds all sound (the same)"
abbrev pub FindsAllSound : Type 0
FindsAllSound =
    (page : ℕ) (judge : Judge) → Page page → ((file transfer cheque taken : List ℕ) → (judge file transfer cheque taken).number ≡ 0)
    → NoJudge page judge

-- a file that breaks nothing but T rules, and none of them at record 1
abbrev pub BrokenLater : ℕ → List ℕ → List ℕ → List ℕ → Type 0
BrokenLater page transfer cheque file = (m j i : ℕ) → Broken page transfer cheque file m j i → (20 ≤ m) × (m ≤ 35) × (2 ≤ j)

-- "a judge that reads the first T record and waves the others through (rules 20 to 35 hold for each)"
abbrev pub WavesThrough : Type 0
WavesThrough =
    (page : ℕ) (judge : Judge) → Page page
    → ((file transfer cheque : List ℕ) → BrokenLater page transfer cheque file → (judge file transfer cheque []).number ≡ 0)
    → NoJudge page judge

-- a prepare, the strict way: from file, lists, output and note places its answer, and what it leaves in the two
abbrev pub Prepare : Type 0
Prepare = List ℕ → List ℕ → List ℕ → List ℕ → List ℕ → Prepared × List ℕ × List ℕ

abbrev pub NoPrepare : ℕ → Prepare → Type 0
NoPrepare page prepare =
    ((file transfer cheque out notes changes : List ℕ) → Bytes file → Listed page file changes
    → let o = prepare file transfer cheque out notes in
    Exactly page file transfer cheque out notes changes o.0
    × (o.0.number ≡ 0 → Sent page file transfer cheque out notes o.1 o.2 o.0.notes))
    → ⊥

-- "a prepare that copies and notes nothing (demand 2's table [..])"
abbrev pub OnlyCopies : Type 0
OnlyCopies =
    (page : ℕ) (prepare : Prepare) → Page page
    → ((file transfer cheque out notes : List ℕ)
    → let o = prepare file transfer cheque out notes in
    o.0.number ≡ 0 → (o.1 ≡ put 0 file out) × (o.2 ≡ notes))
    → NoPrepare page prepare
