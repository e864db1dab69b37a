-- A book answers as the model does, and the model as a plain set.
use Prim.Native.Nat.{ℕ, ◌+◌, ◌-◌, ◌≤◌, ◌<◌}
use mathlib.Core.Path.{◌≡◌, refl, sym, ap, ap₂, subst, ◌∙◌}
use mathlib.Core.Bool.{Bool, true, false, ◌||◌, not, cond, false≢true}
use mathlib.Core.List.{List, [], ◌∷◌, ◌++◌}
use mathlib.Core.Logic.{◌⊎◌, inl, inr}
use native.Mathlib.Omega.{arith}
use borrow.Author.Tests.{eqb-true, eqb-false, ltb-false, leb-false, lt-leb, eq-eqb}
use lib.Dec.{eqb, ltb}
use lib.ListN.{length}
use Rattle.laws.specs.Choice.{on, off, on_eq, off_eq, off_lt, either_known, either_both}
use Rattle.laws.specs.Steps.{fold}
use Rattle.fields.specs.Laws.{some_append}
use Rattle.book.specs.declared.Entry.{Entry}
use Rattle.book.specs.declared.Book.{Book}
use Rattle.book.specs.declared.Taken.{Taken}
use Rattle.book.specs.Model.{Model, model, empty, is_forgotten, held_on, holds, is_too_large, answer_of, after}
use Rattle.book.specs.Kept.{held_in, model_of, book_of, new_of, taken_of}
use Rattle.book.specs.Laws.{held_append, held_is}
use Rattle.keeping.specs.Keeping.{TakenAll, Takes, answers_by, AnswersAsModel, added, AnswersAsPlainSet, HeldFiveDays, RefusedKeepsBook, TakeNumbers, NewBookSettled, TakeSettled}
use Rattle.keeping.proofs.Forgetting.{held_later, holds_not}

same_model : (m : Model) → model_of (book_of m) ≡ m
same_model m i = model m.day (held_is m i)

-- what the answers 50 and 0 mean
module _ (m : Model) (e : Entry) where
  pub record Accepted : Type 0 where
    pub small : is_too_large e ≡ false
    pub in_time : m.day ≤ e.day
    pub free : holds e.number (held_on e.day m.held) ≡ false
    pub room : length (held_on e.day m.held) ≡ 200 → ⊥

  abbrev Means : ℕ → Type 0
  Means n =
      (n ≡ 53)
      ⊎ ((n ≡ 52) ⊎ (((n ≡ 50) × (holds e.number (held_on e.day m.held) ≡ true)) ⊎ ((n ≡ 51) ⊎ ((n ≡ 0) × Accepted))))

  means : Means (answer_of m e)
  unfolding answer_of
  means =
      go (is_too_large e) (ltb e.day m.day) (holds e.number (held_on e.day m.held)) (eqb (length (held_on e.day m.held)) 200) refl refl refl refl
    where
      go : (w x y z : Bool) → is_too_large e ≡ w → ltb e.day m.day ≡ x → holds e.number (held_on e.day m.held) ≡ y
          → eqb (length (held_on e.day m.held)) 200 ≡ z → Means (cond w 53 (cond x 52 (cond y 50 (cond z 51 0))))
      go true x y z o p q r = inl refl
      go false true y z o p q r = inr (inl refl)
      go false false true z o p q r = inr (inr (inl (refl, q)))
      go false false false true o p q r = inr (inr (inr (inl refl)))
      go false false false false o p q r =
          inr (inr (inr (inr (
            refl,
            record { small = o; in_time = ltb-false e.day m.day p; free = q; room = eqb-false (length (held_on e.day m.held)) 200 r },
          ))))

  pub accepted : answer_of m e ≡ 0 → Accepted
  accepted z = go means
    where
      go : Means (answer_of m e) → Accepted
      go (inl p) = absurd (omega (arith, p, z))
      go (inr (inl p)) = absurd (omega (arith, p, z))
      go (inr (inr (inl p))) = absurd (omega (arith, p.0, z))
      go (inr (inr (inr (inl p)))) = absurd (omega (arith, p, z))
      go (inr (inr (inr (inr p)))) = p.1

-- a take of the book of a model
module _ (m : Model) (e : Entry) where
  refused_stays : eqb (answer_of m e) 0 ≡ false → after m e ≡ m
  unfolding after
  refused_stays h = sym (off _ h refl)

  taken_is : eqb (answer_of m e) 0 ≡ true → after m e ≡ model e.day (held_on e.day m.held ++ (e ∷ []))
  unfolding after
  taken_is h = sym (on _ h refl)

  -- what holds where it is refused and where it is not holds after it
  pub either_way : (P : Model → Type 0) → P m
      → (answer_of m e ≡ 0 → P (model e.day (held_on e.day m.held ++ (e ∷ [])))) → P (after m e)
  unfolding after
  either_way P refused taken = either_known P (eqb (answer_of m e) 0) (λ h. taken (eqb-true (answer_of m e) 0 h)) (λ h. refused)

  took_number : (taken_of (book_of m) e).number ≡ answer_of m e
  unfolding taken_of
  took_number = ap (λ (x : Model). answer_of x e) (same_model m)

  took_book : (taken_of (book_of m) e).book ≡ book_of (after m e)
  unfolding taken_of
  took_book = ap (λ (x : Model). cond (eqb (answer_of x e) 0) (book_of (after x e)) (book_of m)) (same_model m) ∙ go (eqb (answer_of m e) 0) refl
    where
      go : (b : Bool) → eqb (answer_of m e) 0 ≡ b → cond b (book_of (after m e)) (book_of m) ≡ book_of (after m e)
      go true h = refl
      go false h = ap book_of (sym (refused_stays h))

all_from : (m : Model) (b : Book) (es : List Entry) (answers : List ℕ) (last : Book) → b ≡ book_of m → TakenAll b es answers last
    → (answers ≡ answers_by after m es) × (last ≡ book_of (fold after m es))
all_from m b [] answers last p t = (t.0, t.1 ∙ p)
all_from m b (e ∷ es) answers last p (taken, took, rest, is, more) =
    let number : taken.number ≡ answer_of m e = ap (λ (x : Taken). x.number) took ∙ ap (λ (x : Book). (taken_of x e).number) p ∙ took_number m e in
    let book : taken.book ≡ book_of (after m e) = ap (λ (x : Taken). x.book) took ∙ ap (λ (x : Book). (taken_of x e).book) p ∙ took_book m e in
    let then = all_from (after m e) taken.book es rest last book more in
    (is ∙ ap₂ (λ (n : ℕ) (ns : List ℕ). n ∷ ns) number then.0, then.1)

pub all_takes : (es : List Entry) (answers : List ℕ) (last : Book) → Takes es answers last
    → (answers ≡ answers_by after empty es) × (last ≡ book_of (fold after empty es))
unfolding new_of
all_takes es answers last t = all_from empty t.first es answers last t.new t.all

pub answers_as_model : AnswersAsModel
answers_as_model es answers last t =
    let a = all_takes es answers last t in
    (a.0, ap model_of a.1 ∙ same_model (fold after empty es))

-- a model that forgets, and one to which pairs are only added: on the same day, and from it on they hold the same
pub record Alike (m all : Model) : Type 0 where
  pub days : m.day ≡ all.day
  pub later : (day : ℕ) → m.day ≤ day → held_on day m.held ≡ held_on day all.held

module _ (m all : Model) (alike : Alike m all) (e : Entry) where
  same_answer : answer_of m e ≡ answer_of all e
  unfolding answer_of
  same_answer = ap (cond (is_too_large e) 53) (go (ltb e.day m.day) refl)
    where
      inner : List Entry → ℕ
      inner held = cond (holds e.number held) 50 (cond (eqb (length held) 200) 51 0)

      go : (b : Bool) → ltb e.day m.day ≡ b
          → cond b 52 (inner (held_on e.day m.held)) ≡ cond (ltb e.day all.day) 52 (inner (held_on e.day all.held))
      go true h = on _ (ap (ltb e.day) (sym alike.days) ∙ h) refl
      go false h = off _ (ap (ltb e.day) (sym alike.days) ∙ h) (ap inner (alike.later e.day (ltb-false e.day m.day h)))

  pub still_alike : Alike (after m e) (added all e)
  unfolding after
  still_alike = either_both Alike (ap (λ (n : ℕ). eqb n 0) same_answer) taken (λ h. alike)
    where
      one : List Entry
      one = e ∷ []

      taken : eqb (answer_of m e) 0 ≡ true
          → Alike (model e.day (held_on e.day m.held ++ one)) (model e.day (all.held ++ one))
      taken h =
          let in_time : m.day ≤ e.day = (accepted m e (eqb-true (answer_of m e) 0 h)).in_time in
          record {
            days = refl;
            later = λ day l.
                held_append day (held_on e.day m.held) one
                ∙ ap (λ (xs : List Entry). xs ++ held_on day one)
                (held_later e.day day l m.held ∙ alike.later day (omega (arith, in_time, l)))
                ∙ sym (held_append day all.held one);
          }

plain_from : (m all : Model) → Alike m all → (es : List Entry) → answers_by after m es ≡ answers_by added all es
plain_from m all alike [] = refl
plain_from m all alike (e ∷ es) =
    ap₂ (λ (n : ℕ) (ns : List ℕ). n ∷ ns) (same_answer m all alike e) (plain_from (after m e) (added all e) (still_alike m all alike e) es)

pub answers_as_plain_set : AnswersAsPlainSet
answers_as_plain_set es answers last t =
    (all_takes es answers last t).0 ∙ plain_from empty empty record { days = refl; later = λ day l. refl } es

pub refused_keeps_book : RefusedKeepsBook
unfolding taken_of
refused_keeps_book b e taken took z =
    ap (λ (x : Taken). x.book) took ∙ sym (off_eq _ (λ n. z (ap (λ (x : Taken). x.number) took ∙ n)) refl)

pub take_numbers : TakeNumbers
unfolding taken_of
take_numbers b e taken took = subst Numbers (sym (ap (λ (x : Taken). x.number) took)) (go (means (model_of b) e))
  where
    Numbers : ℕ → Type 0
    Numbers n = (n ≡ 0) ⊎ ((n ≡ 50) ⊎ ((n ≡ 51) ⊎ ((n ≡ 52) ⊎ (n ≡ 53))))

    go : Means (model_of b) e (answer_of (model_of b) e) → Numbers (answer_of (model_of b) e)
    go (inl p) = inr (inr (inr (inr p)))
    go (inr (inl p)) = inr (inr (inr (inl p)))
    go (inr (inr (inl p))) = inr (inl p.0)
    go (inr (inr (inr (inl p)))) = inr (inr (inl p))
    go (inr (inr (inr (inr p)))) = inl p.0

pub new_book_settled : NewBookSettled
new_book_settled = record { some = (new_of, refl); coincide = λ a b p q. p ∙ sym q }

pub take_settled : TakeSettled
take_settled b e = record { some = (taken_of b e, refl); coincide = λ x y p q. p ∙ sym q }

-- a number that was just taken, on a later day
module _ (held : List Entry) (e later : Entry) (same : later.number ≡ e.number) (free : holds e.number held ≡ false) (l : e.day ≤ later.day) where
  only : holds later.number (held_on later.day (held ++ (e ∷ []))) ≡ holds later.number (held_on later.day (e ∷ []))
  only =
      let not_before : holds later.number held ≡ false = ap (λ (n : ℕ). holds n held) same ∙ free in
      ap (holds later.number) (held_append later.day held (e ∷ []))
      ∙ some_append (λ (x : Entry). eqb x.number later.number) (held_on later.day held) (held_on later.day (e ∷ []))
      ∙ ap (λ (b : Bool). b || holds later.number (held_on later.day (e ∷ []))) (holds_not later.number later.day held not_before)

  found : (b : Bool) → is_forgotten later.day e ≡ b → holds later.number (held_on later.day (held ++ (e ∷ []))) ≡ not b
  found b h = only ∙ ap (λ (x : Bool). holds later.number (cond x [] (e ∷ []))) h ∙ go b
    where
      go : (x : Bool) → holds later.number (cond x [] (e ∷ [])) ≡ not x
      go true = refl
      go false = ap (λ (x : Bool). x || false) (eq-eqb e.number later.number (sym same))

  abbrev again : ℕ
  again = answer_of (model e.day (held ++ (e ∷ []))) later

  still_held : is_too_large later ≡ false → later.day < e.day + 5 → again ≡ 50
  unfolding answer_of
  still_held small h =
      let kept : is_forgotten later.day e ≡ false = lt-leb 5 (later.day - e.day) (omega (arith, h, l)) in
      sym (off _ small (off_lt _ l (on _ (found false kept) refl)))

  held_so_long : again ≡ 50 → later.day < e.day + 5
  held_so_long h = go (is_forgotten later.day e) refl (means (model e.day (held ++ (e ∷ []))) later)
    where
      go : (b : Bool) → is_forgotten later.day e ≡ b → Means (model e.day (held ++ (e ∷ []))) later again → later.day < e.day + 5
      go false p w = omega (arith, leb-false 5 (later.day - e.day) p)
      go true p (inl q) = absurd (omega (arith, h, q))
      go true p (inr (inl q)) = absurd (omega (arith, h, q))
      go true p (inr (inr (inl q))) = absurd (false≢true (sym (found true p) ∙ q.1))
      go true p (inr (inr (inr (inl q)))) = absurd (omega (arith, h, q))
      go true p (inr (inr (inr (inr q)))) = absurd (omega (arith, h, q.0))

pub held_five_days : HeldFiveDays
unfolding taken_of
held_five_days b e later taken next took z same l small took-next =
    let held = held_on e.day (held_in b) in
    let zero : answer_of (model_of b) e ≡ 0 = sym (ap (λ (x : Taken). x.number) took) ∙ z in
    let free = (accepted (model_of b) e zero).free in
    let book : taken.book ≡ book_of (model e.day (held ++ (e ∷ []))) =
    ap (λ (x : Taken). x.book) took ∙ sym (on_eq _ zero refl) ∙ ap book_of (taken_is (model_of b) e (eq-eqb (answer_of (model_of b) e) 0 zero)) in
    let number_is : next.number ≡ again held e later same free l =
    ap (λ (x : Taken). x.number) took-next ∙ ap (λ (x : Book). (taken_of x later).number) book ∙ took_number (model e.day (held ++ (e ∷ []))) later in
    (λ h. held_so_long held e later same free l (sym number_is ∙ h), λ h. number_is ∙ still_held held e later same free l small h)
