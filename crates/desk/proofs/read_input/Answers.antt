use Rattle.desk.specs.Input.{none_read, one_more}
use Rattle.desk.proofs.read_input.Goals as goal

pub returns-then-is_some : goal.returns-then-is_some
returns-then-is_some g c = one_more _ _ _ c.loop-left.invariant c.read_piece-piece.ensures

pub loop-left-preserved : goal.loop-left-preserved
loop-left-preserved g c = one_more _ _ _ c.loop-left.invariant c.read_piece-piece.ensures

pub loop-left-init : goal.loop-left-init
loop-left-init g c = none_read c.start-reader.result c.start-reader.ensures
