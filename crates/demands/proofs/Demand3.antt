-- Demand 3, by the laws of restore (restore/specs/Origin).
use Prim.Native.Nat.{ℕ}
use mathlib.Core.Path.{◌≡◌, refl, sym, ap, subst, ◌∙◌}
use mathlib.Core.Bool.{Bool, true, false, cond, false≢true}
use mathlib.Core.List.{List}
use native.Mathlib.Omega.{arith}
use borrow.Author.Tests.{ltb-true, ltb-false}
use lib.Dec.{ltb}
use lib.ListN.{length}
use Rattle.forwarding.specs.Forwarded.{forwarded, notes_of}
use Rattle.forwarding.specs.RoundTrip.{Bytes}
use Rattle.restore.specs.Restored.{answer, is_yielded, restore_by, restore_of}
use Rattle.restore.specs.Origin.{one_sound_file, origin_yielded, yielded_origin, gives_back, yields_itself, comes_back}
use Rattle.restore.specs.declared.Restored.{Restored}
use Rattle.demands.specs.Forwarding.{Replaced, Listed}
use Rattle.demands.specs.Demand3.{Accepts, YieldsExactly, NeverShared, AcceptsExactly, GivesBack, YieldsItself, TurnsBack}
use Rattle.demands.proofs.Pages.{page_is_there, on_page}
use Rattle.demands.proofs.Demand2.{judged}
use Rattle.demands.proofs.Forwarding.{replaced, replaced_one, listed, listed_one}

pub yields_exactly : YieldsExactly
yields_exactly page transfer cheque file sent notes = (
  λ o. (
    o.bytes,
    (judged page transfer cheque file).sound.0 o.sound,
    subst (Replaced page file) o.forwards (replaced page file),
    subst (Listed page file) o.notes_are (listed page file o.bytes),
  ),
  λ w.
      record {
        bytes = w.0;
        sound = (judged page transfer cheque file).sound.1 w.1;
        forwards = replaced_one page file (forwarded page file) sent (replaced page file) w.2;
        notes_are = listed_one page file (notes_of page file) notes (listed page file w.0) w.3;
      },
)

pub never_shared : NeverShared
never_shared page transfer cheque f g sent notes a b = one_sound_file page transfer cheque f g sent notes a b

accepts : (page : ℕ) (transfer cheque sent notes out : List ℕ) → Bytes sent
    → Accepts page transfer cheque sent notes out (restore_by page sent notes transfer cheque (length out))
accepts page transfer cheque sent notes out bytes =
    go (ltb (length out) (length sent)) (is_yielded page sent notes transfer cheque) refl refl
  where
    go : (short yielded : Bool) → ltb (length out) (length sent) ≡ short → is_yielded page sent notes transfer cheque ≡ yielded
        → Accepts page transfer cheque sent notes out (cond short (answer 60) (cond yielded (answer 0) (answer 70)))
    go true yielded p q =
        let l = ltb-true (length out) (length sent) p in
        record {
          done = (λ z. absurd (omega (arith, z)), λ w. absurd (omega (arith, w.0, l)));
          no_room = (λ z. l, λ w. refl);
          no_file = (λ z. absurd (omega (arith, z)), λ w. absurd (omega (arith, w.0, l)));
          record_0 = refl;
        }
    go false true p q =
        let l = ltb-false (length out) (length sent) p in
        let o = yielded_origin page transfer cheque sent notes bytes q in
        record {
          done = (λ z. (l, (_, o)), λ w. refl);
          no_room = (λ z. absurd (omega (arith, z)), λ w. absurd (omega (arith, w, l)));
          no_file = (λ z. absurd (omega (arith, z)), λ w. absurd (w.1 _ o));
          record_0 = refl;
        }
    go false false p q =
        let l = ltb-false (length out) (length sent) p in
        record {
          done = (λ z. absurd (omega (arith, z)), λ w. absurd (false≢true (sym q ∙ origin_yielded page transfer cheque w.1.0 sent notes w.1.1)));
          no_room = (λ z. absurd (omega (arith, z)), λ w. absurd (omega (arith, w, l)));
          no_file = (λ z. (l, λ file o. false≢true (sym q ∙ origin_yielded page transfer cheque file sent notes o)), λ w. refl);
          record_0 = refl;
        }

pub exactly : AcceptsExactly
unfolding restore_of
exactly page transfer cheque sent notes out out' given there bytes promise =
    let by = restore_by page sent notes transfer cheque (length out) in
    rw (on_page page (λ (r : Restored). r.number) by (answer 7) given promise.answer_is there) (accepts page transfer cheque sent notes out bytes)

pub back : GivesBack
back page transfer cheque file sent notes out out' given there yields room promise =
    let w = gives_back page transfer cheque sent notes out out' given promise (page_is_there page there) file yields room in
    (ap (λ (r : Restored). r.number) w.0, w.1)

pub itself : YieldsItself
itself page transfer cheque file sent notes yields = yields_itself page transfer cheque file sent notes yields

pub turns_back : TurnsBack
turns_back page transfer cheque file out notes out' notes' room room' prepared restored bytes p z q l =
    let w = comes_back page transfer cheque file out notes out' notes' room room' prepared restored bytes z p q l in
    (ap (λ (r : Restored). r.number) w.0, w.1)
