-- Going over the payments: the records of the first of them are written.
use Rattle.std.specs.Prelude.{ℕ, ◌+◌, ◌*◌, ◌-◌, ◌≤◌, ◌<◌, ◌≡◌, refl, Bool, true, false, cond, List, [], ◌∷◌, ◌++◌, map, eqb, length, take, drop}
use Rattle.std.proofs.Common.{ap, ◌∙◌, append-nil, arith, length-append, length-drop, length-take-le}
use Rattle.std.proofs.lemmas.List.{map-append}
use Rattle.laws.specs.Choice.{on_eq, off_eq}
use Rattle.judge.specs.Records.{joined, AllLong}
use Rattle.judge.specs.Apart.{slots_from}
use Rattle.forwarding.specs.Between.{between, between_long}
use Rattle.forwarding.specs.Noted.{Noted, noted_none, noted_is}
use Rattle.sorting.specs.Kept.{returned, rule_in, returned_in}
use Rattle.m8.specs.Record.{m8_of, code_of}
use Rattle.m8.specs.Filed.{record_in}
use Rattle.m8.specs.Writing.{Left, joined_append}

-- what a payment's turn needs, by its first broken rule
pub record Asked (rule : ℕ) (codes : List ℕ) (at : ℕ) (out : List ℕ) : Type 0 where
  pub table : length codes ≡ 96
  pub real : (rule ≡ 0 → ⊥) → (20 ≤ rule) × (rule < 36) × Left 124 at out

-- and all of them: the table of codes, and room
pub record Room (page : ℕ) (file transfer cheque codes out : List ℕ) : Type 0 where
  pub table : length codes ≡ 96
  pub bytes : 124 * length (returned_in page file transfer cheque) ≤ length out

-- each of the 16 codes has six bytes, also as the code lends it
pub code_long : (codes : List ℕ) (rule : ℕ) → length codes ≡ 96 → rule < 36 → length (code_of codes rule) ≡ 6
code_long codes rule l h = length-take-le 6 (drop (6 * (rule - 20)) codes) (omega (arith, length-drop (6 * (rule - 20)) codes))

pub code_lent : (codes : List ℕ) (rule : ℕ) → length codes ≡ 96 → rule < 36 → length (between (6 * (rule - 20)) (6 * (rule - 20) + 6) codes) ≡ 6
code_lent codes rule l h = omega (arith, between_long (6 * (rule - 20)) (6 * (rule - 20) + 6) codes (omega arith))

-- a payment's turn: nothing is written of one that breaks no rule; of any other the record, with the code from the table
module _ (page : ℕ) (q t codes : List ℕ) (rule : ℕ) where
  pub nothing_filed : rule ≡ 0 → (at : ℕ) (out : List ℕ) → Noted (cond (eqb rule 0) [] (m8_of page q (code_of codes rule) t)) at out out at
  nothing_filed z at out = noted_is (on_eq _ z refl) (noted_none at out)

  pub code_filed : 20 ≤ rule → (rule ≡ 0 → ⊥) → {at next : ℕ} {out out' : List ℕ}
      → Noted (m8_of page q (between (6 * (rule - 20)) (6 * (rule - 20) + 6) codes) t) at out out' next
      → Noted (cond (eqb rule 0) [] (m8_of page q (code_of codes rule) t)) at out out' next
  code_filed low f w =
      let six : 6 * (rule - 20) + 6 - 6 * (rule - 20) ≡ 6 = omega arith in
      noted_is (off_eq _ f (ap (λ (n : ℕ). m8_of page q (take n (drop (6 * (rule - 20)) codes)) t) six)) w

-- the records of some T records, payment by payment
module _ (rule : List ℕ → ℕ) (R : List ℕ → List ℕ) where
  abbrev pub one : List ℕ → List ℕ
  one t = cond (eqb (rule t) 0) [] (R t)

  abbrev pub ones : List (List ℕ) → List ℕ
  ones ts = joined (map one ts)

  pub flat : (ts : List (List ℕ)) → joined (map R (returned rule ts)) ≡ ones ts
  flat [] = refl
  flat (t ∷ ts) = go (eqb (rule t) 0) (flat ts)
    where
      go : (b : Bool) → joined (map R (returned rule ts)) ≡ ones ts → joined (map R (cond b (returned rule ts) (t ∷ returned rule ts))) ≡ cond b [] (R t) ++ ones ts
      go true h = h
      go false h = ap (λ (l : List ℕ). R t ++ l) h

  pub ones_append : (us vs : List (List ℕ)) → ones (us ++ vs) ≡ ones us ++ ones vs
  ones_append us vs = ap joined (map-append one us vs) ∙ joined_append (map one us) (map one vs)

  pub ones_more : (us : List (List ℕ)) (t : List ℕ) → ones (us ++ (t ∷ [])) ≡ ones us ++ one t
  ones_more us t = ones_append us (t ∷ []) ∙ ap (λ (l : List ℕ). ones us ++ l) (append-nil (one t))

  -- each has 124 bytes
  module _ (long : (t : List ℕ) → length t ≡ 768 → length (R t) ≡ 124) where
    pub ones_long : (ts : List (List ℕ)) → AllLong ts → length (ones ts) ≡ 124 * length (returned rule ts)
    ones_long [] h = refl
    ones_long (t ∷ ts) h = length-append (one t) (ones ts) ∙ go (eqb (rule t) 0) (ones_long ts h.1)
      where
        go : (b : Bool) → length (ones ts) ≡ 124 * length (returned rule ts)
            → length (cond b [] (R t)) + length (ones ts) ≡ 124 * length (cond b (returned rule ts) (t ∷ returned rule ts))
        go true e = omega (arith, e)
        go false e = omega (arith, e, long t h.0)

-- of a file's first k T records, into what was out
abbrev pub FiledSoFar : ℕ → List ℕ → List ℕ → List ℕ → List ℕ → List ℕ → ℕ → ℕ → List ℕ → Type 0
FiledSoFar page file transfer cheque codes out k at out' =
    Noted (ones (rule_in page file transfer cheque) (record_in page file transfer cheque codes) (slots_from file 1 k)) 0 out out' at
