-- What the default way answers of a file that was sorted, by its three rooms.
use Prim.Native.Nat.{ℕ}
use mathlib.Core.Path.{◌≡◌, refl}
use mathlib.Core.Bool.{Bool, true, false, cond}
use mathlib.Core.List.{List}
use lib.Dec.{eqb, ltb}
use lib.ListN.{length}
use Rattle.forwarding.specs.Forwarded.{notes_of}
use Rattle.sorting.specs.Kept.{kept_file}
use Rattle.sorting.specs.Sorted.{unsorted, sort_of}
use Rattle.sorting.specs.declared.Sorted.{Sorted}
use Rattle.prepare.specs.Prepared.{not_prepared, done, send_of}
use Rattle.prepare.specs.Default.{default_by, default_of}

-- 60, 61 and 63, or what sorting answered
abbrev pub in_rooms : Bool → Bool → Bool → Sorted → Sorted
in_rooms short few brief sorted = cond short (unsorted 60 0) (cond few (unsorted 61 0) (cond brief (unsorted 63 0) sorted))

pub rooms_of : (s : Sorted) (page : ℕ) (kept out notes list : List ℕ)
    → default_by s page kept out notes list
    ≡ cond (eqb s.number 0)
    (in_rooms (ltb (length out) (length kept)) (ltb (length notes) (length (notes_of page kept))) (ltb (length list) s.payments.returned) s) s
unfolding send_of
rooms_of s page kept out notes list =
    go (eqb s.number 0) (ltb (length out) (length kept)) (ltb (length notes) (length (notes_of page kept))) (ltb (length list) s.payments.returned)
  where
    go : (z a b c : Bool)
        → cond z
        (cond (eqb (cond a (not_prepared 60 0) (cond b (not_prepared 61 0) (done (length (notes_of page kept))))).number 0) (cond c (unsorted 63 0) s)
        (unsorted (cond a (not_prepared 60 0) (cond b (not_prepared 61 0) (done (length (notes_of page kept))))).number (cond a (not_prepared 60 0) (cond b (not_prepared 61 0) (done (length (notes_of page kept))))).rec))
        s
        ≡ cond z (in_rooms a b c s) s
    go false a b c = refl
    go true true b c = refl
    go true false true c = refl
    go true false false true = refl
    go true false false false = refl

pub by_rooms : (page : ℕ) (file transfer cheque out notes list : List ℕ)
    → let s = sort_of page file transfer cheque in
    let kept = kept_file page file transfer cheque in
    default_of page file transfer cheque out notes list
    ≡ cond (eqb s.number 0)
    (in_rooms (ltb (length out) (length kept)) (ltb (length notes) (length (notes_of page kept))) (ltb (length list) s.payments.returned) s) s
unfolding default_of
by_rooms page file transfer cheque out notes list = rooms_of (sort_of page file transfer cheque) page (kept_file page file transfer cheque) out notes list
