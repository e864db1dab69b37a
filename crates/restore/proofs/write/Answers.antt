use Rattle.restore.specs.Told.{copy_holds, written}
use Rattle.restore.proofs.write.Goals as goal

pub put_back-requires : goal.put_back-requires
put_back-requires c = copy_holds _ _ _ c.requires.1 c.copy_from_slice.ensures.after

pub returns : goal.returns
returns c = written _ _ _ c.requires.1 c.copy_from_slice.ensures.after c.put_back.ensures
