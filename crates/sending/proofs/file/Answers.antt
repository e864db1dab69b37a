use Rattle.std.proofs.Common.{refl, arith, lit<, ◌+◌}
use Rattle.forwarding.specs.Between.{between_long}
use Rattle.sorting.specs.Frame.{fit, q_there, z_there}
use Rattle.sending.specs.Whole.{q_out, q_places, rooms_behind, all_sent}
use Rattle.sending.proofs.file.Goals as goal

pub whole-q-requires : goal.whole-q-requires
whole-q-requires c = (lit< tt, q_there c.args.file.now (c.args.going.payments.kept + c.args.going.payments.returned) c.requires.fits)

pub slice_bounds-q_record-end : goal.slice_bounds-q_record-end
slice_bounds-q_record-end c = let a = c.args in
    q_out a.terms.now.page a.file.now (c.args.going.payments.kept + c.args.going.payments.returned) a.terms.now.transfer.now a.terms.now.cheque.now c.requires

pub q_record-have-requires : goal.q_record-have-requires
q_record-have-requires c =
    let a = c.args in
    (between_long 0 256 a.out.now (q_out _ _ _ _ _ c.requires), q_places _ _ _ _ _ c.requires c.whole-q.ensures)

pub t_records-next-requires : goal.t_records-next-requires
t_records-next-requires c =
    let a = c.args in
    let q = c.q_record-have.ensures in
    ((_, c.requires.fits), rooms_behind _ _ _ _ _ c.requires c.whole-q.ensures q.output refl q.noted)

pub overflow_add-n : goal.overflow_add-n
overflow_add-n c =
    let n = c.args.going.payments.kept + c.args.going.payments.returned in
    omega (arith, (fit c.args.file.now n c.requires.fits).most)

pub overflow_add-n-2 : goal.overflow_add-n-2
overflow_add-n-2 c = omega (arith, (fit c.args.file.now (c.args.going.payments.kept + c.args.going.payments.returned) c.requires.fits).most)

pub whole-z-requires : goal.whole-z-requires
whole-z-requires c = (lit< tt, z_there c.args.file.now (c.args.going.payments.kept + c.args.going.payments.returned) c.requires.fits)

pub returns : goal.returns
returns c =
    let a = c.args in
    let q = c.q_record-have.ensures in
    all_sent _ _ _ _ _ c.requires c.whole-q.ensures q.output refl q.noted c.t_records-next.ensures c.whole-z.ensures c.fresh_z.ensures
