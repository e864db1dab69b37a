use Rattle.restore.specs.Told.{sound_size}
use Rattle.restore.proofs.is_yielded.Goals as goal

pub nothing-requires : goal.nothing-requires
nothing-requires c = sound_size _ _ _ _ c.examine.result c.examine.ensures.answer (cc)
