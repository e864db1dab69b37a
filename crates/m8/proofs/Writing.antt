-- How long the fields of a record are, all of them, and a whole record.
use Rattle.std.specs.Prelude.{ℕ, ◌≡◌}
use Rattle.std.proofs.Common.{◌∙◌, arith, length-append, ap, List, [], ◌∷◌, ◌++◌, map, length}
use Rattle.laws.specs.Ascii.{zeros}
use Rattle.records.specs.declared.QField.TheVariants.{Q6, Q7}
use Rattle.rules.specs.Q.{in_q}
use Rattle.m8.specs.Record.{fields, m8_of, formats, together, long}
use Rattle.m8.specs.Writing.{joined_long, q_long, amount_long, reference_long}

module _ (page : ℕ) (q reason t : List ℕ) (lq : length q ≡ 256) (lt : length t ≡ 768) (lc : length reason ≡ 6) where
  pub fields_long : map length (fields page q reason t) ≡ formats
  fields_long =
      let number : length (zeros 3 ++ in_q Q7 q) ≡ 5 = simp (length-append) (omega (arith, q_long Q7 q lq)) in
      λ i. 1 ∷ 2 ∷ q_long Q6 q lq i ∷ number i ∷ 7 ∷ 16 ∷ 1 ∷ amount_long t lt i ∷ lc i ∷ reference_long page t lt i ∷ 27 ∷ []

  pub m8_long : length (m8_of page q reason t) ≡ 124
  unfolding m8_of
  m8_long = joined_long (fields page q reason t) ∙ ap together fields_long ∙ long
