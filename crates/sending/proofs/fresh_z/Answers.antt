use Rattle.sending.specs.Writing.{with_both}
use Rattle.sending.proofs.fresh_z.Goals as goal

pub returns : goal.returns
returns c =
    let a = c.args in
    with_both a.z.now c.told-z a.payments a.euros c.copy_from_slice.ensures.after c.place-z3.ensures c.digits.ensures c.place-z4.ensures c.digits-2.ensures
