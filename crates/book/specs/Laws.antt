-- One place more: what is held in the places so far, and the book that holds it.
use Rattle.std.specs.Prelude.{◌≡◌, ℕ, suc, ◌+◌, ◌-◌, ◌%◌, ◌^◌, ◌<◌, ◌≤◌, min, Bool, true, false, cond, ◌||◌, List, [], ◌∷◌, ◌++◌, map, length, get_or, take, set, replicate, ◌==◌, nat_eq, nat_le, slice_index_or, slice_set, refl}
use Rattle.std.proofs.Common.{sym, ◌∙◌, append-nil, arith, add-one, leb-true, leb-false, length-append, length-take, take-suc, take_all}
use Rattle.std.proofs.Math.Path.{ap}
use Rattle.std.proofs.Math.Bool.{or-false}
use Rattle.std.proofs.Math.Nat.{mod-add-mod}
use Rattle.std.proofs.lemmas.List.{length-map}
use Rattle.std.proofs.Math.Seq.{take-append_seam, set-append_seam, append_snoc}
use Rattle.laws.specs.Sums.{sum_of, sum_append}
use Rattle.fields.specs.Laws.{some_append}
use Rattle.book.specs.declared.Entry.{Entry}
use Rattle.book.specs.declared.Book.{Book}
use Rattle.book.specs.Model.{Model, model, is_forgotten, held_on, holds}
use Rattle.book.specs.Kept.{entry_of, held_in, places_of, book_of}

-- what the inner functions promise: the book on a day, without what is forgotten by then; and with one entry more
abbrev pub on_day : Book → ℕ → Book
on_day b day = book_of (model day (held_on day (held_in b)))

abbrev with_totals : Book → Entry → ℕ → ℕ → Book
with_totals b e payments euros =
    record { day = b.day; held = b.held + 1; payments = payments; euros = euros; places = slice_set b.places b.held e }

abbrev pub with_entry : Book → Entry → Book
with_entry b e = with_totals b e ((b.payments + e.payments) % 2 ^ 64) ((b.euros + e.euros) % 2 ^ 64)

-- p and q are the totals as calls added them up
pub totals_added : (b : Book) (e : Entry) {p q : ℕ} → p ≡ (b.payments + e.payments) % 2 ^ 64
    → q ≡ (b.euros + e.euros) % 2 ^ 64 → with_totals b e p q ≡ with_entry b e
totals_added b e p q i = with_totals b e (p i) (q i)

-- a list has the length of what is made of it element by element
pub unmapped : (B : Type 0) (f : Entry → B) (es : List Entry) (n : ℕ) → length (map f es) ≡ n → length es ≡ n
unmapped B f es n e = sym (length-map es f) ∙ e

pub held_append : (day : ℕ) (es fs : List Entry) → held_on day (es ++ fs) ≡ held_on day es ++ held_on day fs
held_append day [] fs = refl
held_append day (e ∷ es) fs = go (is_forgotten day e) (held_append day es fs)
  where
    go : (b : Bool) → held_on day (es ++ fs) ≡ held_on day es ++ held_on day fs
        → cond b (held_on day (es ++ fs)) (e ∷ held_on day (es ++ fs)) ≡ cond b (held_on day es) (e ∷ held_on day es) ++ held_on day fs
    go true h = h
    go false h = ap (λ (xs : List Entry). e ∷ xs) h

pub held_few : (day : ℕ) (es : List Entry) → length (held_on day es) ≤ length es
held_few day [] = omega arith
held_few day (e ∷ es) = go (is_forgotten day e) (held_few day es)
  where
    go : (b : Bool) → length (held_on day es) ≤ length es → length (cond b (held_on day es) (e ∷ held_on day es)) ≤ suc (length es)
    go true h = omega (arith, h)
    go false h = omega (arith, h)

-- one more entry, in the first free place
module _ (day : ℕ) (es : List Entry) (e : Entry) (few : length es < 200) where
  free : 200 - length es ≡ suc (200 - length (es ++ (e ∷ [])))
  free = omega (arith, length-append es (e ∷ []))

  one_more : length es + 1 ≡ length (es ++ (e ∷ []))
  one_more = sym (length-append es (e ∷ []))

  placed : set (places_of es) (length es) e ≡ places_of (es ++ (e ∷ []))
  placed =
      ap (λ (n : ℕ). set (es ++ replicate n (entry_of 0 0 0 0)) (length es) e) free
      ∙ set-append_seam es (entry_of 0 0 0 0) (replicate (200 - length (es ++ (e ∷ []))) (entry_of 0 0 0 0)) e
      ∙ sym (append_snoc es e (replicate (200 - length (es ++ (e ∷ []))) (entry_of 0 0 0 0)))

  added_up : (f : Entry → ℕ) → (sum_of f es % 2 ^ 64 + f e) % 2 ^ 64 ≡ sum_of f (es ++ (e ∷ [])) % 2 ^ 64
  added_up f =
      let more : sum_of f es + f e ≡ sum_of f (es ++ (e ∷ [])) = omega (arith, sum_append f es (e ∷ [])) in
      mod-add-mod (sum_of f es) (2 ^ 64) (f e) ∙ ap (λ (n : ℕ). n % 2 ^ 64) more

  pub with_entry_is : with_entry (book_of (model day es)) e ≡ book_of (model day (es ++ (e ∷ [])))
  with_entry_is i =
      record {
        day = day;
        held = one_more i;
        payments = added_up (λ (x : Entry). x.payments) i;
        euros = added_up (λ (x : Entry). x.euros) i;
        places = placed i;
      }

-- the same unless it is forgotten
abbrev pub unless_forgotten : ℕ → Book → Entry → Book
unless_forgotten day b e = cond (is_forgotten day e) b (with_entry b e)

keeps : (day : ℕ) (es : List Entry) (e : Entry) → length es < 200
    → unless_forgotten day (book_of (model day (held_on day es))) e ≡ book_of (model day (held_on day (es ++ (e ∷ []))))
keeps day es e few =
    go (is_forgotten day e) (with_entry_is day (held_on day es) e (omega (arith, held_few day es)))
    ∙ ap (λ (hs : List Entry). book_of (model day hs)) (sym (held_append day es (e ∷ [])))
  where
    go : (b : Bool) → with_entry (book_of (model day (held_on day es))) e ≡ book_of (model day (held_on day es ++ (e ∷ [])))
        → cond b (book_of (model day (held_on day es))) (with_entry (book_of (model day (held_on day es))) e)
        ≡ book_of (model day (held_on day es ++ cond b [] (e ∷ [])))
    go true h = ap (λ (hs : List Entry). book_of (model day hs)) (sym (append-nil (held_on day es)))
    go false h = h

-- the entry at place i, beside those before it
module _ (es : List Entry) (i : ℕ) (d : Entry) (in_List : i < length es) where
  next : take i es ++ (slice_index_or es i d ∷ []) ≡ take (i + 1) es
  next = sym (rw (add-one i) (take-suc es i d in_List))

  pub holds_next : (number : ℕ) → holds number (take i es) || ((get_or es i d).number == number) ≡ holds number (take (i + 1) es)
  holds_next number =
      ap (λ (b : Bool). holds number (take i es) || b) (sym (or-false ((get_or es i d).number == number)))
      ∙ sym (some_append (λ (e : Entry). nat_eq e.number number) (take i es) (slice_index_or es i d ∷ []))
      ∙ ap (holds number) next

  pub keeps_next : (day : ℕ) → i < 200
      → unless_forgotten day (book_of (model day (held_on day (take i es)))) (slice_index_or es i d) ≡ book_of (model day (held_on day (take (i + 1) es)))
  keeps_next day few =
      keeps day (take i es) (slice_index_or es i d) (omega (arith, length-take i es))
      ∙ ap (λ (xs : List Entry). book_of (model day (held_on day xs))) next

-- the places up to the last that holds something
pub filled : (i n : ℕ) (es : List Entry) → length es ≡ 200 → i ≡ min 200 n → take i es ≡ take n es
filled i n es long e = go (nat_le n 200) refl
  where
    go : (b : Bool) → nat_le n 200 ≡ b → take i es ≡ take n es
    go true h =
        let same : i ≡ n = omega (arith, e, leb-true n 200 h) in
        ap (λ (m : ℕ). take m es) same
    go false h =
        let few : length es ≤ n = omega (arith, long, leb-false n 200 h) in
        let all : length es ≤ i = omega (arith, e, few, long) in
        take_all i es all ∙ sym (take_all n es few)

-- what the book of a model holds
pub held_is : (m : Model) → held_in (book_of m) ≡ m.held
held_is m = take-append_seam m.held (replicate (200 - length m.held) (entry_of 0 0 0 0))
