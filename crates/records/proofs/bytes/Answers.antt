use Rattle.records.specs.Inside.{held_at}
use Rattle.records.proofs.bytes.Goals as goal

pub returns : goal.returns
returns g c =
    let a = c.args in
    held_at _ a.rec.now c.part.ensures c.place.ensures (g.met.F.Field.inside a.f) c.told-rec
