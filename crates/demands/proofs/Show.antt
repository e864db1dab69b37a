-- A shown field is empty exactly where there is none, and otherwise that field of that record, where it lies.
use Prim.Native.Nat.{ℕ, ◌+◌, ◌-◌, ◌≤◌, ◌<◌, min}
use mathlib.Core.Path.{◌≡◌, refl, sym, ap, subst, subst₂, ◌∙◌}
use mathlib.Core.Bool.{Bool, true, false, cond}
use mathlib.Core.List.{List}
use mathlib.Core.Logic.{inl, inr}
use native.Mathlib.Omega.{arith}
use borrow.Author.Tests.{eqb-true, eqb-false, leb-true, leb-false}
use lib.Dec.{eqb, leb, T, leb→le, lit<}
use lib.ListN.{length, get_or, take, drop, length-take, length-drop}
use lib.Seq.{ext_get_or, get_or-take, get_or-drop}
use Rattle.laws.specs.Choice.{off_eq}
use Rattle.laws.specs.Steps.{empty}
use Rattle.records.specs.Places.{record_at, part, nowhere, q_text, t_text}
use Rattle.records.specs.Inside.{Inside, q_text_inside, t_text_inside}
use Rattle.records.specs.declared.Span.{Span}
use Rattle.structure.specs.Slots.{width_at, slot_at, later_width}
use Rattle.structure.specs.Walk.{structure_of}
use Rattle.structure.specs.Shape.{Shape, Fits, Refused}
use Rattle.forwarding.specs.Numbered.{text_wide}
use Rattle.show.specs.Shown.{moved, shown_by, shown_at, ShownAs, shown_inside, in_q, in_t}
use Rattle.host.specs.declared.Part.{Part}
use Rattle.demands.specs.Show.{field_at, EmptyExactly, ShowsTheField, DeskShowsThePlace}
use Rattle.demands.proofs.There.{ThereIn, there_in, in_there}

-- a T record has no text field of another number
module _ (f : ℕ) (out : 2 ≤ f → f ≤ 9 → ⊥) where
  apart : (i : ℕ) → 2 ≤ i → i ≤ 9 → f ≡ i → ⊥
  apart i low high e = out (omega (arith, e)) (omega (arith, e))

  no_text : nowhere ≡ t_text f
  no_text =
      let other : (i : ℕ) → T (leb 2 i) × T (leb i 9) → f ≡ i → ⊥ = λ i t. apart i (leb→le 2 i t.0) (leb→le i 9 t.1) in
      off_eq _ (other 2 (tt, tt))
      (off_eq _ (other 3 (tt, tt))
      (off_eq _ (other 4 (tt, tt))
      (off_eq _ (other 5 (tt, tt)) (off_eq _ (other 6 (tt, tt)) (off_eq _ (other 7 (tt, tt)) (off_eq _ (other 8 (tt, tt)) (off_eq _ (other 9 (tt, tt)) refl)))))))

module _ (file : List ℕ) (k f : ℕ) where
  -- where the field is not there, its place is nowhere
  no_place : (ThereIn file k f → ⊥) → nowhere ≡ shown_at file k f
  unfolding shown_at
  no_place none = go (structure_of file) refl
    where
      text : (n : ℕ) → structure_of file ≡ Fits n → (k ≡ 0 → ⊥) → (b low high : Bool) → leb k n ≡ b → leb 2 f ≡ low → leb f 9 ≡ high
          → nowhere ≡ cond b (moved (record_at k) (t_text f)) nowhere
      text n e z false low high p q r = refl
      text n e z true true true p q r =
          absurd (none (n, e, inr (omega (arith, z), leb-true k n p, leb-true 2 f q, leb-true f 9 r)))
      text n e z true false high p q r =
          ap (moved (record_at k)) (no_text f (λ low h. omega (arith, leb-false 2 f q)))
      text n e z true true false p q r = ap (moved (record_at k)) (no_text f (λ low h. omega (arith, leb-false f 9 r)))

      first : (n : ℕ) → structure_of file ≡ Fits n → k ≡ 0 → (b : Bool) → eqb f 1 ≡ b → nowhere ≡ cond b (q_text 1) nowhere
      first n e z true p = absurd (none (n, e, inl (z, eqb-true f 1 p)))
      first n e z false p = refl

      by_record : (n : ℕ) → structure_of file ≡ Fits n → (b : Bool) → eqb k 0 ≡ b
          → nowhere ≡ cond b (q_text f) (cond (leb k n) (moved (record_at k) (t_text f)) nowhere)
      by_record n e true p = first n e (eqb-true k 0 p) (eqb f 1) refl
      by_record n e false p = text n e (eqb-false k 0 p) (leb k n) (leb 2 f) (leb f 9) refl refl refl

      go : (s : Shape) → structure_of file ≡ s → nowhere ≡ shown_by s k f
      go (Refused number rec) e = refl
      go (Fits n) e = by_record n e (eqb k 0) refl

  -- how long the part is
  long : (from at : ℕ × ℕ) (bytes : List ℕ) → ShownAs from file k f at bytes → length bytes ≡ (shown_at file k f).end - (shown_at file k f).start
  unfolding part
  long from at bytes shown =
      let inside = shown_inside file k f in
      let s = shown_at file k f in
      omega (arith, inside.0, inside.1, ap length shown.holds, length-take (s.end - s.start) (drop s.start file), length-drop s.start file)

-- a field that is there stands at its record's place and its own, and has bytes
pub record Stands (file : List ℕ) (k f : ℕ) : Type 0 where
  pub place : shown_at file k f ≡ record { start = record_at k + (field_at k f).start; end = record_at k + (field_at k f).end }
  pub wide : (field_at k f).start < (field_at k f).end
  pub inside : Inside (width_at k) (field_at k f)

stands : (file : List ℕ) (k f : ℕ) → ThereIn file k f → Stands file k f
stands file k f (n, e, inl (z, one)) =
    subst₂ (Stands file) (sym z) (sym one)
    (record { place = sym (in_q file 0 1 n e refl refl); wide = lit< tt; inside = q_text_inside 1 })
stands file k f (n, e, inr (some, in_file, low, high)) =
    let later : k ≡ 0 → ⊥ = λ z. omega (arith, z, some) in
    let field : t_text f ≡ field_at k f = off_eq (q_text f) later refl in
    let text = text_wide f low (omega (arith, high)) in
    let at : record { start = record_at k + (t_text f).start; end = record_at k + (t_text f).end } ≡ moved (record_at k) (t_text f) =
    off_eq {a = (t_text f).end} {b = 0} _ (λ z. omega (arith, z, text)) refl in
    record {
      place =
          sym (in_t file k f n e later in_file refl refl at)
          ∙ ap (λ (s : Span). record { start = record_at k + s.start; end = record_at k + s.end }) field;
      wide = subst (λ (s : Span). s.start < s.end) field text;
      inside = subst₂ Inside (sym (later_width k some)) field (t_text_inside f);
    }

pub empty_exactly : EmptyExactly
empty_exactly from at file bytes k f shown = (
  λ e there.
      let s = stands file k f (there_in file k f there) in
      omega (arith, s.wide, ap (λ (p : Span). p.end - p.start) s.place, long file k f from at bytes shown, ap length e),
  λ none. empty bytes (long file k f from at bytes shown ∙ ap (λ (s : Span). s.end - s.start) (sym (no_place file k f (λ there. none (in_there file k f there))))),
)

pub desk_shows_the_place : DeskShowsThePlace
desk_shows_the_place from at file bytes k f answer shown placed = (
  shown.there ∙ ap (λ (p : Part). (from.0, p.start + from.1)) (sym placed),
  long file k f from at bytes shown ∙ ap (λ (p : Part). p.length) (sym placed),
)

-- m bytes at offset a of a record that stands at r, by way of its slot of w bytes
cut_length : (n r w a m : ℕ) → a + m ≤ w → min m (n - (r + a)) ≡ min m (min w (n - r) - a)
cut_length n r w a m h = omega arith

module _ (file : List ℕ) (r w a m : ℕ) (h : a + m ≤ w) where
  slot : List ℕ
  slot = take w (drop r file)

  cut_long : length (take m (drop (r + a) file)) ≡ length (take m (drop a slot))
  unfolding slot
  cut_long =
      length-take m (drop (r + a) file)
      ∙ ap (min m) (length-drop (r + a) file)
      ∙ cut_length (length file) r w a m h
      ∙ ap (λ (n : ℕ). min m (n - a)) (sym (length-take w (drop r file) ∙ ap (min w) (length-drop r file)))
      ∙ ap (min m) (sym (length-drop a (take w (drop r file))))
      ∙ sym (length-take m (drop a (take w (drop r file))))

  cut : take m (drop (r + a) file) ≡ take m (drop a (take w (drop r file)))
  unfolding slot
  cut =
      ext_get_or 0 _ _ cut_long
      (λ i l.
      let below : i < m = omega (arith, length-take m (drop (r + a) file)) in
      let there : r + a + i ≡ r + (a + i) = omega arith in
      get_or-take m (drop (r + a) file) i 0 below
      ∙ get_or-drop (r + a) file i 0
      ∙ ap (λ (j : ℕ). get_or file j 0) there
      ∙ sym (get_or-drop r file (a + i) 0)
      ∙ sym (get_or-take w (drop r file) (a + i) 0 (omega arith))
      ∙ sym (get_or-drop a slot i 0)
      ∙ sym (get_or-take m (drop a slot) i 0 below))

pub shows_the_field : ShowsTheField
unfolding part slot_at
shows_the_field from at file bytes k f there shown =
    let w = stands file k f (there_in file k f there) in
    let s = field_at k f in
    let r = record_at k in
    let width : r + s.end - (r + s.start) ≡ s.end - s.start = omega arith in (
      shown.there ∙ ap (λ (p : Span). (from.0, p.start + from.1)) w.place,
      shown.holds ∙ ap (λ (p : Span). part p file) w.place
          ∙ ap (λ (m : ℕ). take m (drop (r + s.start) file)) width
          ∙ cut file r (width_at k) s.start (s.end - s.start) (omega (arith, w.inside.0, w.inside.1)),
    )
