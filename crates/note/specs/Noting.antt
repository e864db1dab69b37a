-- The turns of noting: a field more, a record more.
use Rattle.std.specs.Prelude.{ℕ, ◌+◌, ◌≤◌, ◌<◌, ◌≡◌, List, [], ◌∷◌, ◌++◌, length}
use Rattle.std.proofs.Common.{sym, ap, ◌∙◌, arith, length-append}
use Rattle.records.specs.Places.{q_text}
use Rattle.records.specs.declared.Span.{Span}
use Rattle.forwarding.specs.Text.{q_texts, t_texts}
use Rattle.forwarding.specs.Forwarded.{notes_of}
use Rattle.forwarding.specs.Changes.{notes_page}
use Rattle.forwarding.specs.Between.{between}
use Rattle.forwarding.specs.Fields.{field_notes}
use Rattle.forwarding.specs.Noted.{Noted, noted_none, noted_is, noted_length, noted_append}
use Rattle.forwarding.specs.Pieces.{noted_in, noted_more, q_noted, t_noted, all_noted}
use Rattle.forwarding.specs.Sized.{z_at, Sized, Begins, fits, begins_first, begins_next, begins_last}

module _ (rec : List ℕ) {s : Span} where
  pub q5_notes : s ≡ q_text 1 → field_notes (s ∷ []) 0 rec ≡ field_notes q_texts 0 rec
  q5_notes at = ap (λ (s : Span). field_notes (s ∷ []) 0 rec) at

-- the notes of the T records before place `at` are put behind the `have` that were there
pub record NotedTo (file : List ℕ) (have : ℕ) (ps ps' : List ℕ) (n at : ℕ) : Type 0 where
  pub begins : Begins file at
  pub so_far : Noted (noted_in 0 256 at file) have ps ps' n

module _ {file ps : List ℕ} {have : ℕ} (sized : Sized file) (room : have + length (noted_in 0 256 (z_at file) file) ≤ length ps) where
  pub note_first : NotedTo file have ps ps have 256
  unfolding noted_in
  note_first = record { begins = begins_first sized; so_far = noted_none have ps }

  module _ {ps' : List ℕ} {n at : ℕ} (noted : NotedTo file have ps ps' n at) where
    low : 256 ≤ at
    low = noted.begins.low

    high : at + 256 ≤ length file
    high = noted.begins.high

    behind : (e : ℕ) → at ≤ e → noted_in 0 256 e file ≡ noted_in 0 256 at file ++ noted_in 0 at e file
    behind e l = noted_more 0 file 256 at e low l (omega (arith, high))

    pub note_same : length ps' ≡ length ps
    note_same =
        noted_length noted.so_far
        (omega (arith, room, ap length (behind (z_at file) (omega (arith, high))), length-append (noted_in 0 256 at file) (noted_in 0 at (z_at file) file)))

    pub note_last : z_at file ≤ at → Noted (noted_in 0 256 (z_at file) file) have ps ps' n
    note_last done =
        let z : at ≡ z_at file = omega (arith, begins_last sized noted.begins done) in
        rw z at noted.so_far

    module _ (more : at < z_at file) where
      next : Begins file (at + 768)
      next = begins_next sized noted.begins more

      one_more : noted_in 0 256 (at + 768) file ≡ noted_in 0 256 at file ++ field_notes t_texts at (between at (at + 768) file)
      one_more =
          behind (at + 768) (omega arith)
          ∙ ap (λ (l : List ℕ). noted_in 0 256 at file ++ l) (t_noted 0 file at noted.begins.turn (fits sized noted.begins more))

      pub note_room : n + length (field_notes t_texts at (between at (at + 768) file)) ≤ length ps'
      note_room =
          let ts = field_notes t_texts at (between at (at + 768) file) in
          let rest = noted_in 0 (at + 768) (z_at file) file in
          let all = ap length (noted_more 0 file 256 (at + 768) (z_at file) (omega (arith, low)) (omega (arith, next.high)) (omega (arith, next.high))) in
          let sum = length-append (noted_in 0 256 (at + 768) file) rest in
          let sum' = length-append (noted_in 0 256 at file) ts in
          omega (arith, room, note_same, noted.so_far.next_is, all, sum, ap length one_more, sum')

      pub note_next : {ps'' : List ℕ} {m : ℕ} → Noted (field_notes t_texts at (between at (at + 768) file)) n ps' ps'' m
          → NotedTo file have ps ps'' m (at + 768)
      note_next put =
          record {
            begins = next;
            so_far = noted_is (sym one_more) (noted_append noted.so_far put (omega (arith, note_same, note_room, noted.so_far.next_is)));
          }

-- Q's notes, and then those of the T records
module _ (file ps : List ℕ) (sized : Sized file) (room : length (notes_of 0 file) ≤ length ps) where
  whole : notes_of 0 file ≡ field_notes q_texts 0 (between 0 256 file) ++ noted_in 0 256 (z_at file) file
  whole =
      all_noted 0 file (z_at file) (omega (arith, sized.long))
      ∙ noted_more 0 file 0 256 (z_at file) (omega arith) (omega (arith, sized.long)) (omega (arith, sized.long))
      ∙ ap (λ (l : List ℕ). l ++ noted_in 0 256 (z_at file) file) (q_noted 0 file (omega (arith, sized.long)))

  both : length (field_notes q_texts 0 (between 0 256 file)) + length (noted_in 0 256 (z_at file) file) ≤ length ps
  both = omega (arith, room, ap length whole, length-append (field_notes q_texts 0 (between 0 256 file)) (noted_in 0 256 (z_at file) file))

  pub q_room : length (field_notes q_texts 0 (between 0 256 file)) ≤ length ps
  q_room = omega (arith, both)

  module _ {ps' : List ℕ} {n : ℕ} (q : Noted (field_notes q_texts 0 (between 0 256 file)) 0 ps ps' n) where
    pub t_room : n + length (noted_in 0 256 (z_at file) file) ≤ length ps'
    t_room = omega (arith, both, q.next_is, noted_length q (omega (arith, q_room)))

    pub note_all : {ps'' : List ℕ} {m : ℕ} → Noted (noted_in 0 256 (z_at file) file) n ps' ps'' m → (page : ℕ)
        → Noted (notes_of page file) 0 ps ps'' m
    note_all t page = noted_is (sym whole ∙ notes_page 0 page file) (noted_append q t (omega (arith, q_room)))
