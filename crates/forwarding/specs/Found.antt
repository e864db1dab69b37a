-- A text field as the code finds it: s is its place, and field its bytes. It lies in its record, is short, and has fifteen bytes
-- more of the record behind it.
use Rattle.std.specs.Prelude.{ℕ, ◌+◌, ◌≤◌, ◌<◌, ◌≡◌, List, length}
use Rattle.std.proofs.Common.{ap, ◌∙◌, arith, lit≤}
use Rattle.records.specs.Places.{part, q_text, t_text}
use Rattle.records.specs.Inside.{Inside, inside, q_inside, t_text_inside, part_le}
use Rattle.records.specs.declared.Span.{Span}
use Rattle.records.specs.declared.QField.TheVariants.{Q5}
use Rattle.forwarding.specs.Numbered.{text_short, text_before}

pub same_part : {s place : Span} → s ≡ place → (rec : List ℕ) {field : List ℕ} → field ≡ part s rec → field ≡ part place rec
same_part e rec bytes = bytes ∙ ap (λ (s : Span). part s rec) e

module _ {s : Span} (at : s ≡ q_text 1) where
  pub q_in : (rec : List ℕ) → length rec ≡ 256 → Inside (length rec) s
  q_in rec l = inside at (q_inside Q5) l

  pub q_before : s.end + 15 ≤ 256
  q_before = rw at (lit≤ tt)

  module _ (rec : List ℕ) {field : List ℕ} (bytes : field ≡ part s rec) where
    pub q_short : length field ≤ 140
    q_short = omega (arith, ap length (same_part at rec bytes), part_le (q_text 1) rec)

module _ (k : ℕ) (low : 2 ≤ k) (high : k < 10) {s : Span} (at : s ≡ t_text k) where
  pub t_in : (rec : List ℕ) → length rec ≡ 768 → Inside (length rec) s
  t_in rec l = inside at (t_text_inside k) l

  pub t_before : s.end + 15 ≤ 768
  t_before = rw at (text_before k low high)

  module _ (rec : List ℕ) {field : List ℕ} (bytes : field ≡ part s rec) where
    pub t_short : length field ≤ 140
    t_short = omega (arith, ap length (same_part at rec bytes), part_le (t_text k) rec, text_short k low high)
