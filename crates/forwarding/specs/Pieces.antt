-- A file from place to place: what is forwarded and noted of the bytes from place a up to below b. Pieces follow one another;
-- Q and each T record are pieces by their text fields; before Z is all that is noted, and Z is forwarded as it is.
use Rattle.std.specs.Prelude.{ℕ, ◌+◌, ◌-◌, ◌%◌, ◌≤◌, ◌<◌, ◌≡◌, refl, true}
use Rattle.std.proofs.Common.{sym, ◌∙◌, add-zero, arith, lt-ltb, le-ltb}
use Rattle.std.proofs.Math.Path.{ap, ap₂}
use mathlib.Core.List.{List, ◌++◌, append-nil}
use Rattle.std.proofs.Math.ListN.{length, drop}
use Rattle.charset.specs.Table.{rep}
use Rattle.records.specs.declared.Span.{Span}
use Rattle.forwarding.specs.Text.{q_texts, t_texts, lies, textual, text_at}
use Rattle.forwarding.specs.Forwarded.{fwd, notes, forwarded, notes_of}
use Rattle.forwarding.specs.Parts.{never, Agree, fwd_never, notes_never, fwd_length, fwd_append, notes_append, notes_few, fwd_same, notes_same, fwd_from}
use Rattle.forwarding.specs.Between.{between, between_long, between_rest, between_more}
use Rattle.forwarding.specs.Changes.{any_page}
use Rattle.forwarding.specs.Fields.{field_notes, rising, lies_from, record_notes}

unfoldable pub sent_in : ℕ → ℕ → ℕ → List ℕ → List ℕ
sent_in page a b file = fwd (rep page) textual a (between a b file)

unfoldable pub noted_in : ℕ → ℕ → ℕ → List ℕ → List ℕ
noted_in page a b file = notes (rep page) textual a (between a b file)

module _ (page : ℕ) (file : List ℕ) (a b : ℕ) where
  pub sent_long : b ≤ length file → length (sent_in page a b file) ≡ b - a
  unfolding sent_in
  sent_long h = fwd_length (rep page) textual a (between a b file) ∙ between_long a b file h

  pub noted_few : b ≤ length file → length (noted_in page a b file) ≤ b - a
  unfolding noted_in
  noted_few h = omega (arith, notes_few (rep page) textual a (between a b file), between_long a b file h)

  pub noted_page : (other : ℕ) → noted_in page a b file ≡ noted_in other a b file
  unfolding noted_in
  noted_page other = any_page page other textual a (between a b file)

  -- a piece and the next
  module _ (c : ℕ) (h : a ≤ b) (l : b ≤ c) (fits : b ≤ length file) where
    next : a + length (between a b file) ≡ b
    next = omega (arith, between_long a b file fits)

    pub sent_more : sent_in page a c file ≡ sent_in page a b file ++ sent_in page b c file
    unfolding sent_in
    sent_more =
        ap (fwd (rep page) textual a) (between_more a b file h c l)
        ∙ fwd_append (rep page) textual a (between a b file) (between b c file)
        ∙ ap (λ (k : ℕ). fwd (rep page) textual a (between a b file) ++ fwd (rep page) textual k (between b c file)) next

    pub noted_more : noted_in page a c file ≡ noted_in page a b file ++ noted_in page b c file
    unfolding noted_in
    noted_more =
        ap (notes (rep page) textual a) (between_more a b file h c l)
        ∙ notes_append (rep page) textual a (between a b file) (between b c file)
        ∙ ap (λ (k : ℕ). notes (rep page) textual a (between a b file) ++ notes (rep page) textual k (between b c file)) next

-- the text places of a record that stands at a
pub text_q : (i : ℕ) → i < 256 → textual i ≡ lies q_texts i
unfolding textual
text_q i h = rw (lt-ltb i 256 h)

text_t : (a i : ℕ) → a % 768 ≡ 256 → a ≤ i → i < a + 768 → textual i ≡ lies_from a t_texts i
unfolding textual
text_t a i m h l =
    let z : (i - 256) % 768 ≡ i - a = omega arith in
    rw (le-ltb i 256 (omega arith), z)

-- a piece that is a record, by its text fields ss
module _ (page : ℕ) (file : List ℕ) (a b : ℕ) (ss : List Span) (fits : b ≤ length file) (order : rising 0 (b - a) ss ≡ true)
    (same : Agree textual (lies_from a ss) a (b - a)) where
  agree : Agree textual (lies_from a ss) a (length (between a b file))
  agree = rw (between_long a b file fits) same

  record_noted : noted_in page a b file ≡ field_notes ss a (between a b file)
  unfolding noted_in
  record_noted =
      notes_same (rep page) textual (lies_from a ss) a (between a b file) agree
      ∙ record_notes page a (between a b file) ss (rw (between_long a b file fits) order)

  record_sent : sent_in page a b file ≡ fwd (rep page) (lies ss) 0 (between a b file)
  unfolding sent_in
  record_sent =
      fwd_same (rep page) textual (lies_from a ss) a (between a b file) agree
      ∙ ap (λ (k : ℕ). fwd (rep page) (lies_from a ss) k (between a b file)) (sym (add-zero a))
      ∙ fwd_from (rep page) (lies ss) a 0 (between a b file)

module _ (page : ℕ) (file : List ℕ) (fits : 256 ≤ length file) where
  same_q : Agree textual (lies_from 0 q_texts) 0 256
  same_q k p q = let z : k - 0 ≡ k = omega arith in text_q k q ∙ ap (lies q_texts) (sym z)

  pub q_noted : noted_in page 0 256 file ≡ field_notes q_texts 0 (between 0 256 file)
  q_noted = record_noted page file 0 256 q_texts fits refl same_q

  pub q_sent : sent_in page 0 256 file ≡ fwd (rep page) (lies q_texts) 0 (between 0 256 file)
  q_sent = record_sent page file 0 256 q_texts fits refl same_q

module _ (page : ℕ) (file : List ℕ) (a : ℕ) (place : a % 768 ≡ 256) (fits : a + 768 ≤ length file) where
  wide : a + 768 - a ≡ 768
  wide = omega arith

  order_t : rising 0 (a + 768 - a) t_texts ≡ true
  order_t = rw wide

  same_t : Agree textual (lies_from a t_texts) a (a + 768 - a)
  same_t k p q = text_t a k place p (omega arith)

  pub t_noted : noted_in page a (a + 768) file ≡ field_notes t_texts a (between a (a + 768) file)
  t_noted = record_noted page file a (a + 768) t_texts fits order_t same_t

  pub t_sent : sent_in page a (a + 768) file ≡ fwd (rep page) (lies t_texts) 0 (between a (a + 768) file)
  t_sent = record_sent page file a (a + 768) t_texts fits order_t same_t

-- Z has no text
module _ (page : ℕ) (file : List ℕ) (e : ℕ) (long : e + 256 ≡ length file) where
  front_long : length (between 0 e file) ≡ e
  front_long = omega (arith, between_long 0 e file (omega arith))

  before_z : Agree (text_at (length file)) textual 0 (length (between 0 e file))
  unfolding text_at
  before_z k p q = rw (lt-ltb (k + 256) (length file) (omega (arith, front_long)))

  in_z : Agree (text_at (length file)) never (0 + length (between 0 e file)) (length (drop e file))
  unfolding text_at
  in_z k p q = rw (le-ltb (k + 256) (length file) (omega (arith, front_long)))

  whole : file ≡ between 0 e file ++ drop e file
  whole = between_rest 0 e file (omega arith)

  pub all_noted : notes_of page file ≡ noted_in page 0 e file
  unfolding notes_of noted_in
  all_noted =
      let t = text_at (length file) in
      let f = between 0 e file in
      let z = drop e file in
      ap (notes (rep page) t 0) whole ∙ notes_append (rep page) t 0 f z
      ∙ ap₂ ◌++◌ (notes_same (rep page) t textual 0 f before_z) (notes_same (rep page) t never (0 + length f) z in_z ∙ notes_never (rep page) (0 + length f) z)
      ∙ append-nil (notes (rep page) textual 0 f)

  pub all_sent : forwarded page file ≡ sent_in page 0 e file ++ drop e file
  unfolding forwarded sent_in
  all_sent =
      let t = text_at (length file) in
      let f = between 0 e file in
      let z = drop e file in
      ap (fwd (rep page) t 0) whole ∙ fwd_append (rep page) t 0 f z
      ∙ ap₂ ◌++◌ (fwd_same (rep page) t textual 0 f before_z) (fwd_same (rep page) t never (0 + length f) z in_z ∙ fwd_never (rep page) (0 + length f) z)
