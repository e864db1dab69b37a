use Rattle.std.proofs.Common.{arith}
use Rattle.m8.specs.Writing.{left_86, left_68, left_62, left_27, record_written}
use Rattle.m8.proofs.one_record.Goals as goal

pub amount-end-requires : goal.amount-end-requires
amount-end-requires c =
    let a = c.args in
    let l = left_86 a.page a.q.now a.code.now a.t.now c.told-q c.told-t c.told-code c.requires c.heading-end.ensures in
    (omega (arith, l.0), omega (arith, l.1))

pub append-end-requires : goal.append-end-requires
append-end-requires c =
    let a = c.args in
    let l = left_68 a.page a.q.now a.code.now a.t.now c.told-q c.told-t c.told-code c.requires c.heading-end.ensures c.amount-end.ensures in
    (omega (arith, l.0), omega (arith, l.1))

pub slice_bounds-reference-end : goal.slice_bounds-reference-end
slice_bounds-reference-end c =
    let a = c.args in
    let l = left_62 a.page a.q.now a.code.now a.t.now c.told-q c.told-t c.told-code c.requires c.heading-end.ensures c.amount-end.ensures
    c.append-end.ensures in
    omega (arith, l.0)

pub append-requires : goal.append-requires
append-requires c =
    let a = c.args in
    left_27 _ _ _ _ c.told-q c.told-t c.told-code c.requires c.heading-end.ensures c.amount-end.ensures c.append-end.ensures c.reference.ensures

pub returns : goal.returns
returns c =
    let a = c.args in
    record_written _ _ _ _ c.told-q c.told-t c.told-code c.requires c.heading-end.ensures c.amount-end.ensures c.append-end.ensures c.reference.ensures
    c.append.ensures
