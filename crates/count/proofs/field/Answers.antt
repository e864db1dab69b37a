use Rattle.std.proofs.Common.{refl, rules}
use Rattle.forwarding.specs.Changes.{changes}
use Rattle.count.proofs.field.Goals as goal

pub loop-b-init : goal.loop-b-init
unfolding changes
loop-b-init c = record { few = search rules; rest = refl }
