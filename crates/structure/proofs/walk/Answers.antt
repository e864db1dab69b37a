use Rattle.std.specs.Prelude.{ℕ, ◌+◌, ◌≤◌, List, length, get_or, refl}
use Rattle.std.proofs.Common.{sym, ap, ◌∙◌, arith}
use Rattle.laws.specs.Choice.{off_lt}
use Rattle.laws.specs.Scan.{goes, leaves}
use Rattle.structure.specs.Walk.{structure_of}
use Rattle.structure.specs.Whole.{whole, length_low, z_later}
use Rattle.structure.specs.Fits.{WalksOn, passed_room}
use Rattle.structure.specs.Found.{found, real, none}
use Rattle.structure.specs.Turns.{passed, passed_t, hands_on, stops_broken, stops_z}
use Rattle.structure.proofs.walk.Invariants.{Passed}
use Rattle.structure.proofs.walk.Goals as goal

-- A turn that passes record k
turn : (file : List ℕ) (k : ℕ) → Passed file k → length file ≤ 7679744 → WalksOn file k → Passed file (k + 1)
turn file k inv short p =
    (passed_room file k p, goes _ _ _ _ _ (omega arith) inv.1 (hands_on file k _ _ refl refl p _))

pub loop-k-preserved-then-whole_t : goal.loop-k-preserved-then-whole_t
loop-k-preserved-then-whole_t c =
    turn _ _ c.loop-k.invariant c.if-file-gt7679744.false
    (passed_t _ _ _ c.slot-rec.ensures (sym c.whole_t.ensures ∙ c.if-whole_t.true))

pub returns-in-Err : goal.returns-in-Err
unfolding structure_of
returns-in-Err c =
    let broken = sym (ap found c.in-Err.is) ∙ c.fault_in.ensures in
    off_lt _ c.if-file-gt7679744.false
    (leaves _ _ _ _ _ _ (omega arith) c.loop-k.invariant.1
    (stops_broken _ _ _ _ c.slot-rec.ensures broken (real _) _))

pub bounds-rec-4 : goal.bounds-rec-4
bounds-rec-4 c =
    let w = whole _ _ (sym c.fault_in.ensures ∙ none _ c.in_default.not-Err) in
    omega (arith, w.long, length_low (get_or c.slot-rec.result.now 4 0))

pub overflow_sub-result : goal.overflow_sub-result
overflow_sub-result c =
    let w = whole _ _ (sym c.fault_in.ensures ∙ none _ c.in_default.not-Err) in
    omega (arith, z_later c.loop-k.k _ c.if-rec-eq-LETTER.true w.here)

pub returns-then-rec-eq-LETTER : goal.returns-then-rec-eq-LETTER
unfolding structure_of
returns-then-rec-eq-LETTER c =
    off_lt _ c.if-file-gt7679744.false
    (leaves _ _ _ _ _ _ (omega arith) c.loop-k.invariant.1
    (stops_z _ _ _ _ c.slot-rec.ensures c.fault_in.ensures (none _ c.in_default.not-Err) c.if-rec-eq-LETTER.true _))

pub loop-k-preserved : goal.loop-k-preserved
loop-k-preserved c =
    turn _ _ c.loop-k.invariant c.if-file-gt7679744.false
    (passed _ _ _ _ c.slot-rec.ensures c.fault_in.ensures (none _ c.in_default.not-Err) c.if-rec-eq-LETTER.false)
