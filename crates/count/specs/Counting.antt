-- The turns of counting: a field more, a record more.
use Rattle.std.specs.Prelude.{ℕ, ◌+◌, ◌≤◌, ◌<◌, ◌≡◌, refl, false, List, [], ◌∷◌, eqb, length}
use Rattle.std.proofs.Common.{sym, ap, ◌∙◌, arith, add-zero, ne_eqb, length-append}
use Rattle.records.specs.Places.{part, q_text, t_text}
use Rattle.records.specs.declared.Span.{Span}
use Rattle.forwarding.specs.Text.{q_texts, t_texts}
use Rattle.forwarding.specs.Forwarded.{notes_of}
use Rattle.forwarding.specs.Between.{between}
use Rattle.forwarding.specs.Changes.{changes, changes_few}
use Rattle.forwarding.specs.Fields.{field_changes, field_count, changes_more}
use Rattle.forwarding.specs.Numbered.{texts_below, texts_more}
use Rattle.forwarding.specs.Pieces.{noted_in, noted_few, noted_page, noted_more, q_noted, t_noted, all_noted}
use Rattle.forwarding.specs.Sized.{z_at, Sized, Begins, fits, begins_first, begins_next, begins_last}
use Rattle.forwarding.specs.Found.{same_part, t_short}

-- Q5 alone; the fields of T below k, and field k
module _ (rec : List ℕ) {s : Span} {field : List ℕ} where
  pub count_q5 : {n : ℕ} → s ≡ q_text 1 → field ≡ part s rec → n ≡ changes field → n ≡ field_changes q_texts rec
  count_q5 at bytes e = e ∙ ap changes (same_part at rec bytes) ∙ sym (add-zero (changes (part (q_text 1) rec)))

  pub count_field : (k : ℕ) {n c : ℕ} → 2 ≤ k → k < 10 → s ≡ t_text k → field ≡ part s rec → n ≡ field_changes (texts_below k) rec
      → c ≡ changes field → n + c ≡ field_changes (texts_below (k + 1)) rec
  count_field k {n} {c} low high at bytes p q =
      let here : c ≡ changes (part (t_text k) rec) = q ∙ ap changes (same_part at rec bytes) in
      omega (arith, p, here, changes_more (texts_below k) (t_text k ∷ []) rec, ap (λ (l : List Span). field_changes l rec) (texts_more k low high))

  -- and in field k there are few
  pub few_field : (k : ℕ) {c : ℕ} → 2 ≤ k → k < 10 → s ≡ t_text k → field ≡ part s rec → c ≡ changes field → c ≤ 140
  few_field k low high at bytes q = omega (arith, q, changes_few field, t_short k low high at rec bytes)

-- n is the count of the records before place `at`
pub record Counted (file : List ℕ) (n at : ℕ) : Type 0 where
  pub begins : Begins file at
  pub so_far : n ≡ length (noted_in 0 0 at file)

module _ {file : List ℕ} (sized : Sized file) where
  pub count_first : {n : ℕ} → n ≡ field_changes q_texts (between 0 256 file) → Counted file n 256
  count_first e =
      record {
        begins = begins_first sized;
        so_far = e ∙ field_count q_texts 0 (between 0 256 file) ∙ sym (ap length (q_noted 0 file (omega (arith, sized.long))));
      }

  module _ {n at : ℕ} (counted : Counted file n at) where
    -- there are no more than bytes
    pub count_few : n ≤ at
    count_few = omega (arith, counted.so_far, noted_few 0 file 0 at (omega (arith, counted.begins.high)))

    pub count_all : z_at file ≤ at → (page : ℕ) → n ≡ length (notes_of page file)
    count_all done page =
        counted.so_far ∙ ap length (noted_page 0 file 0 at page ∙ sym (all_noted page file at (begins_last sized counted.begins done)))

    -- the file has no fewer, so it has some where these are some
    pub count_some : (n ≡ 0 → ⊥) → (page : ℕ) → false ≡ eqb (length (notes_of page file)) 0
    count_some some page =
        let b = counted.begins in
        let all = ap length (noted_page 0 file 0 (z_at file) page ∙ sym (all_noted page file (z_at file) (omega (arith, sized.long)))) in
        let more = ap length (noted_more 0 file 0 at (z_at file) (omega arith) (omega (arith, b.high)) (omega (arith, b.high))) in
        sym
        (ne_eqb (length (notes_of page file)) 0
        (λ none. some (omega (arith, counted.so_far, all, more, none, length-append (noted_in 0 0 at file) (noted_in 0 at (z_at file) file)))))

    pub count_next : {c : ℕ} → at < z_at file → c ≡ field_changes t_texts (between at (at + 768) file) → Counted file (n + c) (at + 768)
    count_next {c} more e =
        let b = counted.begins in
        let l = fits sized b more in
        let here : c ≡ length (noted_in 0 at (at + 768) file) =
        e ∙ field_count t_texts at (between at (at + 768) file) ∙ sym (ap length (t_noted 0 file at b.turn l)) in
        let more_notes = ap length (noted_more 0 file 0 at (at + 768) (omega arith) (omega arith) (omega arith)) in
        let sum = length-append (noted_in 0 0 at file) (noted_in 0 at (at + 768) file) in
        record { begins = begins_next sized b more; so_far = omega (arith, counted.so_far, here, more_notes, sum) }

  -- the next record has some
  pub next_some : {at : ℕ} → Counted file 0 at → at < z_at file → (field_changes t_texts (between at (at + 768) file) ≡ 0 → ⊥)
      → (page : ℕ) → false ≡ eqb (length (notes_of page file)) 0
  next_some {at} counted more some =
      let c = field_changes t_texts (between at (at + 768) file) in
      count_some (count_next counted {c = c} more refl) (λ (none : 0 + c ≡ 0). some (omega arith))
