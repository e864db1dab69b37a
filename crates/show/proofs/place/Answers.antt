use Rattle.std.proofs.Common.{sym, arith}
use Rattle.structure.specs.Slots.{place_is}
use Rattle.structure.specs.Fits.{fits}
use Rattle.show.specs.Shown.{text_inside}
use Rattle.show.proofs.place.Goals as goal

pub record_at-requires : goal.record_at-requires
record_at-requires c = omega (arith, (fits c.args.file.now _ (sym c.in-Ok.ensures)).most)

pub moved-requires-2 : goal.moved-requires-2
moved-requires-2 c =
    let s = text_inside c.args.field c.text-2.ensures in
    (omega (arith, (fits c.args.file.now _ (sym c.in-Ok.ensures)).most, c.record_at.ensures, place_is c.args.rec), s.1, s.0)
