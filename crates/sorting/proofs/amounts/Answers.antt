use Rattle.std.proofs.Common.{◌≡◌, refl, sym, ap, ◌∙◌, arith, lit<, not, Ok, Err}
use Rattle.laws.specs.Choice.{on, off, on_eq, off_eq}
use Rattle.laws.specs.Scan.{goes, leaves, ends}
use Rattle.records.specs.declared.Span.{Span}
use Rattle.structure.specs.Slots.{slot_at, place_in, t_long}
use Rattle.sorting.specs.Sorted.{in_digits, no_amount}
use Rattle.sorting.specs.Answer.{digits_place}
use Rattle.sorting.proofs.amounts.Goals as goal

pub loop-k-init : goal.loop-k-init
unfolding no_amount
loop-k-init c = refl

pub whole-requires : goal.whole-requires
whole-requires c =
    let a = c.args in (
      lit< tt,
      (omega arith, place_in a.file.now a.n c.requires.0 c.loop-k.k (omega arith), t_long a.file.now a.n c.requires.0 c.loop-k.k (omega arith) (omega arith)),
    )

pub returns-in-Err : goal.returns-in-Err
returns-in-Err c =
    let a = c.args in
    let e = c.in-Err.ensures in
    let here : c.loop-k.k ≡ no_amount a.file.now a.n =
    leaves _ _ _ _ _ _ (omega arith) c.loop-k.invariant (on _ (ap not (sym (e.right ∙ ap in_digits c.whole.ensures))) refl) in
    let place : c.place.result.start ≡ digits_place (slot_at a.file.now (no_amount a.file.now a.n)) =
    ap (λ (s : Span). s.start) c.place.ensures ∙ e.place ∙ ap digits_place (c.whole.ensures ∙ ap (slot_at a.file.now) here) in
    off_eq (Ok tt) (λ (z : no_amount a.file.now a.n ≡ 0). omega arith) (λ i. Err (record { number = 33; rec = here i; at = place i }))

pub loop-k-preserved : goal.loop-k-preserved
loop-k-preserved c =
    goes _ _ _ _ _ (omega arith) c.loop-k.invariant (off _ (ap not (sym (c.in_default.ensures.right ∙ ap in_digits c.whole.ensures))) refl)

pub returns : goal.returns
returns c = on_eq _ (sym (ends _ _ _ _ _ (omega arith) c.loop-k.invariant)) refl
