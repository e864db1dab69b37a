use Rattle.std.specs.Prelude.{◌≡◌, ℕ, ◌≤◌, List, []}
use Rattle.std.proofs.Common.{refl, zero-add, arith}
use Rattle.records.specs.Places.{PartOf, part}
use Rattle.records.specs.Inside.{inside}
use Rattle.records.specs.declared.Span.{Span}
use Rattle.show.specs.Shown.{shown_at, shown_inside}
use Rattle.show.specs.Somewhere.{is_there, is_none}
use Rattle.show.proofs.show.Goals as goal

-- a place that ends at 0 is nothing of the file
nothing : (s : Span) (from : ℕ × ℕ) (bytes : List ℕ) → s.end ≡ 0 → s.start ≤ s.end → PartOf s from bytes from []
unfolding part
nothing s from bytes e h =
    let z : s.start ≡ 0 = omega (arith, e, h) in
    record { there = rw (z, zero-add) refl; holds = rw (e, z) refl }

pub part-requires : goal.part-requires
part-requires c =
    let a = c.args in
    inside (is_there (shown_at a.file.now a.rec a.field) c.in-Some.ensures) (shown_inside a.file.now a.rec a.field) refl

pub returns-in-None : goal.returns-in-None
returns-in-None c =
    let a = c.args in
    let at = shown_at a.file.now a.rec a.field in
    nothing at a.file.ref_ptr a.file.now (is_none at c.in-None.ensures) (shown_inside a.file.now a.rec a.field).0
