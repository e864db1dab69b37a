-- The totals of a book: sums that fit in 64 bits.
use Prim.Native.Nat.{ℕ, ◌-◌, ◌*◌, ◌%◌, ◌^◌, ◌≤◌, ◌<◌}
use mathlib.Core.Path.{◌≡◌, refl, sym, ap, ap₂, ◌∙◌}
use mathlib.Core.Bool.{Bool, true, false, ◌||◌, cond, false≢true}
use mathlib.Core.List.{List, [], ◌∷◌, ◌++◌}
use native.Mathlib.Nat.{mod-eq_of_lt}
use native.Mathlib.Omega.{arith}
use borrow.Author.Tests.{ltb-false, lt-leb}
use lib.Dec.{ltb}
use lib.ListN.{length}
use Rattle.laws.specs.Steps.{fold}
use Rattle.laws.specs.Sums.{sum_of}
use Rattle.book.specs.declared.Entry.{Entry}
use Rattle.book.specs.declared.Book.{Book}
use Rattle.book.specs.Model.{Model, empty, held_on, most_payments, most_euros, is_too_large, after}
use Rattle.book.specs.Kept.{totals_of}
use Rattle.book.specs.Laws.{held_append}
use Rattle.keeping.specs.Keeping.{added}
use Rattle.keeping.specs.Totals.{sums, TotalsAreSums, TotalsOfPlainSet, TotalsSettled}
use Rattle.keeping.proofs.Forgetting.{held_later}
use Rattle.keeping.proofs.Keeping.{either_way, all_takes, Alike, still_alike}
use Rattle.keeping.proofs.Rebuilding.{with, Runs, runs_few, Reached, reached}

-- what a take passes
figures : (e : Entry) → is_too_large e ≡ false → (e.payments ≤ most_payments) × (e.euros ≤ most_euros)
figures e small = go (ltb most_payments e.payments) refl small
  where
    go : (b : Bool) → ltb most_payments e.payments ≡ b → b || ltb most_euros e.euros ≡ false
        → (e.payments ≤ most_payments) × (e.euros ≤ most_euros)
    go true p q = absurd (false≢true (sym q))
    go false p q = (ltb-false most_payments e.payments p, ltb-false most_euros e.euros q)

-- a figure that no take passes above the limit of euros, which is the higher one: 200 of them fit
module _ (f : Entry → ℕ) (most : (e : Entry) → is_too_large e ≡ false → f e ≤ most_euros) where
  sum_few : (m : Model) (es : List Entry) → Runs m es → sum_of f es ≤ length es * most_euros
  sum_few m [] r = omega arith
  sum_few m (e ∷ es) r = omega (arith, most e r.0.small, sum_few (with m e) es r.1)

  total_is : (m : Model) → Reached m → sum_of f m.held % 2 ^ 64 ≡ sum_of f m.held
  total_is m r =
      let few : sum_of f m.held < 2 ^ 64 =
      omega (arith, sum_few empty m.held r.runs, runs_few empty m.held r.runs (omega arith)) in
      mod-eq_of_lt few

pub totals_are_sums : TotalsAreSums
unfolding totals_of
totals_are_sums es answers last totals t is =
    let m = fold after empty es in
    is ∙ ap totals_of (all_takes es answers last t).1
    ∙ (λ i.
    record {
      files = length m.held;
      payments = total_is (λ (e : Entry). e.payments) (λ e s. omega (arith, (figures e s).0)) m (reached es) i;
      euros = total_is (λ (e : Entry). e.euros) (λ e s. (figures e s).1) m (reached es) i;
    })

pub totals_settled : TotalsSettled
totals_settled b = record { some = (totals_of b, refl); coincide = λ x y p q. p ∙ sym q }

-- a model holds what it holds on its day
abbrev Todays : Model → Type 0
Todays m = held_on m.day m.held ≡ m.held

module _ (m : Model) (e : Entry) (t : Todays m) where
  abbrev one : List Entry
  one = e ∷ []

  today : held_on e.day one ≡ one
  today = ap (λ (b : Bool). cond b [] one) (lt-leb 5 (e.day - e.day) (omega arith))

  todays_after : Todays (after m e)
  todays_after =
      either_way m e Todays t (λ zero.
      held_append e.day (held_on e.day m.held) one
      ∙ ap₂ (λ (xs ys : List Entry). xs ++ ys) (held_later e.day e.day (omega arith) m.held) today)

todays_all : (m : Model) (es : List Entry) → Todays m → Todays (fold after m es)
todays_all m [] t = t
todays_all m (e ∷ es) t = todays_all (after m e) es (todays_after m e t)

alike_all : (m all : Model) (es : List Entry) → Alike m all → Alike (fold after m es) (fold added all es)
alike_all m all [] alike = alike
alike_all m all (e ∷ es) alike = alike_all (after m e) (added all e) es (still_alike m all alike e)

pub totals_of_plain_set : TotalsOfPlainSet
totals_of_plain_set es answers last totals t is =
    let m = fold after empty es in
    let all = fold added empty es in
    let alike : Alike m all = alike_all empty empty es record { days = refl; later = λ day l. refl } in
    let day : last.day ≡ m.day = ap (λ (b : Book). b.day) (all_takes es answers last t).1 in
    let held : m.held ≡ held_on last.day all.held =
    sym (todays_all empty es refl) ∙ alike.later m.day (omega arith) ∙ ap (λ (d : ℕ). held_on d all.held) (sym day) in
    totals_are_sums es answers last totals t is ∙ ap sums held
