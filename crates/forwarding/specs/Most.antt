-- No file has more notes than characters of text: those of Q, and those of each T record.
use Rattle.std.specs.Prelude.{ℕ, zero, suc, ◌+◌, ◌*◌, ◌≤◌, ◌≡◌, List, length}
use Rattle.std.proofs.Common.{ap, subst, arith, length-append}
use Rattle.forwarding.specs.Text.{q_texts, t_texts}
use Rattle.forwarding.specs.Forwarded.{notes_of}
use Rattle.forwarding.specs.Between.{between}
use Rattle.forwarding.specs.Fields.{field_count, q_most, t_most}
use Rattle.forwarding.specs.Pieces.{noted_in, noted_more, q_noted, t_noted, all_noted}

-- the characters of text in a file with n T records
abbrev pub text_length : ℕ → ℕ
text_length n = 140 + 553 * n

module _ (page : ℕ) (file : List ℕ) where
  -- of Q and the first k T records
  most_upto : (k : ℕ) → 256 + 768 * k ≤ length file → length (noted_in page 0 (256 + 768 * k) file) ≤ text_length k
  most_upto zero h =
      omega (arith, ap length (q_noted page file h), field_count q_texts 0 (between 0 256 file), q_most (between 0 256 file))
  most_upto (suc k) h =
      let at = 256 + 768 * k in
      let rec = between at (at + 768) file in
      let next : at + 768 ≡ 256 + 768 * suc k = omega arith in
      let fits : at + 768 ≤ length file = omega arith in
      subst (λ (e : ℕ). length (noted_in page 0 e file) ≤ text_length (suc k)) next
      (omega (arith, most_upto k (omega arith), ap length (noted_more page file 0 at (at + 768) (omega arith) (omega arith) (omega arith)), length-append (noted_in page 0 at file) (noted_in page at (at + 768) file), ap length (t_noted page file at (omega arith) fits), field_count t_texts at rec, t_most rec))

  pub notes_most : (n : ℕ) → length file ≡ 512 + 768 * n → length (notes_of page file) ≤ text_length n
  notes_most n long = omega (arith, ap length (all_noted page file (256 + 768 * n) (omega arith)), most_upto n (omega arith))
