-- A take by what was found.
use Rattle.std.specs.Prelude.{◌≡◌, ℕ, ◌<◌, ◌≤◌, Bool, true, false, cond, List, length, ◌==◌, refl}
use Rattle.std.proofs.Common.{sym, ◌∙◌, arith, length-take}
use Rattle.std.proofs.Math.Path.{ap}
use Rattle.laws.specs.Choice.{on, off, on_eq, off_eq, on_lt, off_lt, on_call, off_call}
use Rattle.book.specs.declared.Entry.{Entry}
use Rattle.book.specs.declared.Book.{Book}
use Rattle.book.specs.Model.{model, held_on, holds, is_too_large, answer_of, after}
use Rattle.book.specs.Kept.{held_in, model_of, book_of, answered, taken_of}
use Rattle.book.specs.Laws.{on_day, with_entry, with_entry_is, held_few, held_is}

-- what is known of a take when the number was looked for: no figure is above its limit, the day is not earlier, kept is the
-- book on that day, and found says whether it holds the number
pub record Asked (b : Book) (e : Entry) (kept : Book) (found : Bool) : Type 0 where
  pub small : is_too_large e ≡ false
  pub in_time : b.day ≤ e.day
  pub kept_is : kept ≡ on_day b e.day
  pub found_is : found ≡ holds e.number (held_in kept)

-- r is what was answered of the figures
pub asked : {b : Book} {e : Entry} {kept : Book} {r found : Bool} → r ≡ is_too_large e → r ≡ false → b.day ≤ e.day → kept ≡ on_day b e.day
    → found ≡ holds e.number (held_in kept) → Asked b e kept found
asked figures small in_time kept found = record { small = sym figures ∙ small; in_time = in_time; kept_is = kept; found_is = found }

-- a take by what was found
module _ (b : Book) (e : Entry) where
  by_answer : {a : ℕ} → a ≡ answer_of (model_of b) e → answered (cond (a == 0) (book_of (after (model_of b) e)) b) a ≡ taken_of b e
  unfolding taken_of
  by_answer h = ap (λ (a : ℕ). answered (cond (a == 0) (book_of (after (model_of b) e)) b) a) h

  pub too_large : is_too_large e ≡ true → answered b 53 ≡ taken_of b e
  unfolding answer_of
  too_large t = by_answer (on _ t refl)

  pub too_early : is_too_large e ≡ false → e.day < b.day → answered b 52 ≡ taken_of b e
  unfolding answer_of
  too_early small h = by_answer (off _ small (on_lt _ h refl))

  module _ {kept : Book} {found : Bool} (a : Asked b e kept found) where
    abbrev held : List Entry
    held = held_on e.day (held_in b)

    found_there : found ≡ holds e.number held
    found_there = a.found_is ∙ ap (holds e.number) (ap held_in a.kept_is ∙ held_is (model e.day held))

    many : length held ≡ kept.held
    many = sym (ap (λ (x : Book). x.held) a.kept_is)

    pub is_held : found ≡ true → answered b 50 ≡ taken_of b e
    unfolding answer_of
    is_held t = by_answer (off _ a.small (off_lt _ a.in_time (on_call _ found_there t refl)))

    pub is_full : found ≡ false → kept.held ≡ 200 → answered b 51 ≡ taken_of b e
    unfolding answer_of
    is_full n full = by_answer (off _ a.small (off_lt _ a.in_time (off_call _ found_there n (on_eq _ (many ∙ full) refl))))

    module _ (long : length b.places ≡ 200) (free : kept.held ≡ 200 → ⊥) where
      pub has_room : kept.held < 200
      has_room = omega (arith, free, many, held_few e.day (held_in b), length-take b.held b.places, long)

      -- where the number is not found
      module _ (n : found ≡ false) where
        is_zero : 0 ≡ answer_of (model_of b) e
        unfolding answer_of
        is_zero = off _ a.small (off_lt _ a.in_time (off_call _ found_there n (off_eq _ (λ full. free (sym many ∙ full)) refl)))

        taken_book : with_entry kept e ≡ book_of (after (model_of b) e)
        unfolding after
        taken_book =
            ap (λ (x : Book). with_entry x e) a.kept_is
            ∙ with_entry_is e.day held e (omega (arith, has_room, many))
            ∙ ap book_of (on_eq _ (sym is_zero) refl)

        pub tells_taken : {next : Book} → next ≡ with_entry kept e → answered next 0 ≡ taken_of b e
        tells_taken w = ap (λ (x : Book). answered x 0) (w ∙ taken_book) ∙ by_answer is_zero
