use Rattle.std.proofs.Common.{◌≡◌, refl, arith}
use Rattle.records.specs.Inside.{inside}
use Rattle.show.specs.Shown.{shown_at, shown_inside}
use Rattle.show.specs.Somewhere.{is_there, is_none}
use Rattle.host.proofs.desk_show.Goals as goal

pub overflow_sub-result : goal.overflow_sub-result
overflow_sub-result c =
    let a = c.args in
    let s = inside (is_there (shown_at a.file.now a.rec a.field) c.in-Some.ensures) (shown_inside a.file.now a.rec a.field) refl in
    omega (arith, s.0)

pub returns-in-None : goal.returns-in-None
returns-in-None c =
    let a = c.args in
    let at = shown_at a.file.now a.rec a.field in
    let end = is_none at c.in-None.ensures in
    let start : at.start ≡ 0 = omega (arith, end, (shown_inside a.file.now a.rec a.field).0) in
    rw (start, end) refl
