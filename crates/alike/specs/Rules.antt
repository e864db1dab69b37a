-- Every rule says the same of two records that are read alike.
use Rattle.std.specs.Prelude.{ℕ, zero, suc, ◌≡◌, true, List, [], ◌∷◌, get_or, take, drop}
use Rattle.std.proofs.Math.Path.{refl, ap}
use Rattle.std.proofs.Common.{sym, ◌∙◌}
use Rattle.std.proofs.Math.ListN.{get_or-map}
use Rattle.charset.specs.Table.{rep, text}
use Rattle.records.specs.Places.{◌to◌, part, line_of, q_place, t_place}
use Rattle.records.specs.declared.Span.{Span}
use Rattle.records.specs.declared.QField.{QField}
use Rattle.records.specs.declared.QField.TheVariants.{Q3, Q4, Q5, Q6, Q7, Q8, Q9, Q10, Q11, Q12}
use Rattle.records.specs.declared.TField.{TField}
use Rattle.records.specs.declared.TField.TheVariants.{T3, T4a, T4b, T5, T6, T7a, T7b, T8, T9a, T9b, T10a, T10b, T11, T12, T13, T14a, T14b, T16, T17, T18, T19, T21, T22, T25, T26, T27}
use Rattle.fields.specs.Class.{all_of, blank}
use Rattle.fields.specs.Bic.{bic_shape}
use Rattle.fields.specs.declared.Class.TheVariants.{Space}
use Rattle.rules.specs.Wrong.{line_blank}
use Rattle.rules.specs.Q.{rule10, rule11, rule12, rule13, rule14, rule15, rule16}
use Rattle.rules.specs.Faults.{q_fault}
use Rattle.payments.specs.Rules.{key_of, is_transfer, is_cheque, has_bic, rule20, rule21, rule22, rule23, rule24, rule25, rule26, rule27, rule28, rule29, rule30, rule31, rule32, rule33, rule34, rule35}
use Rattle.payments.specs.Faults.{t_fault}
use Rattle.fields.specs.Number.{dec}
use Rattle.judge.specs.Sums.{euros, cents}
use Rattle.forwarding.specs.Text.{q_texts, t_texts}
use Rattle.alike.specs.Reads.{Alike, apart}

-- parts of replaced text
text_take : (page n : ℕ) (s : List ℕ) → text page (take n s) ≡ take n (text page s)
text_take page zero s = refl
text_take page (suc n) [] = refl
text_take page (suc n) (x ∷ s) = ap (λ (l : List ℕ). rep page x ∷ l) (text_take page n s)

text_drop : (page n : ℕ) (s : List ℕ) → text page (drop n s) ≡ drop n (text page s)
text_drop page zero s = refl
text_drop page (suc n) [] = refl
text_drop page (suc n) (x ∷ s) = text_drop page n s

module _ (page : ℕ) (x y : List ℕ) (e : text page x ≡ text page y) where
  piece : (n m : ℕ) → text page (take n (drop m x)) ≡ text page (take n (drop m y))
  piece n m =
      text_take page n (drop m x) ∙ ap (take n) (text_drop page m x ∙ ap (drop m) e ∙ sym (text_drop page m y)) ∙ sym (text_take page n (drop m y))

  char : (i : ℕ) → rep page (get_or x i 0) ≡ rep page (get_or y i 0)
  char i = sym (get_or-map (rep page) x i 0) ∙ ap (λ (l : List ℕ). get_or l i (rep page 0)) e ∙ get_or-map (rep page) y i 0

  blank_as : blank page x ≡ blank page y
  unfolding blank
  blank_as = ap (all_of Space) e

  bic_as : bic_shape page x ≡ bic_shape page y
  unfolding bic_shape
  bic_as = rw (piece 4 0, piece 2 4, piece 2 6, piece 3 8)

module _ (page : ℕ) (ss : List Span) (a b : List ℕ) (r : Alike page ss a b) where
  line_as : (s : Span) (k : ℕ) → line_blank page b s k ≡ line_blank page a s k
  unfolding line_blank
  line_as s k = blank_as page _ _ (r.read (line_of s k))

module _ (page : ℕ) (a b : List ℕ) (r : Alike page q_texts a b) where
  same_q : (f : QField) → apart q_texts (q_place f) ≡ true → part (q_place f) b ≡ part (q_place f) a
  same_q f e = r.plain (q_place f) e

  pub q_as : (rule : ℕ) → q_fault page b rule ≡ q_fault page a rule
  unfolding q_fault rule10 rule11 rule12 rule13 rule14 rule15 rule16
  q_as rule =
      rw (
        same_q Q3 refl,
        same_q Q4 refl,
        line_as page q_texts a b r (q_place Q5) 1,
        same_q Q6 refl,
        same_q Q7 refl,
        same_q Q8 refl,
        same_q Q9 refl,
        same_q Q10 refl,
        same_q Q11 refl,
        same_q Q12 refl,
      )

module _ (page : ℕ) (a b : List ℕ) (r : Alike page t_texts a b) where
  same_t : (f : TField) → apart t_texts (t_place f) ≡ true → part (t_place f) b ≡ part (t_place f) a
  same_t f e = r.plain (t_place f) e

  blank_t : (f : TField) → blank page (part (t_place f) b) ≡ blank page (part (t_place f) a)
  blank_t f = blank_as page _ _ (r.read (t_place f))

  transfer_as : is_transfer b ≡ is_transfer a
  unfolding is_transfer
  transfer_as = rw (same_t T22 refl)

  cheque_as : is_cheque b ≡ is_cheque a
  unfolding is_cheque
  cheque_as = rw (same_t T22 refl)

  bic_t : has_bic page b ≡ has_bic page a
  unfolding has_bic
  bic_t = bic_as page _ _ (r.read (t_place T8))

  pub key_as : key_of b ≡ key_of a
  key_as = r.plain (5 to 25) refl

  as20 : rule20 b ≡ rule20 a
  unfolding rule20
  as20 = rw (same_t T3 refl, same_t T4a refl, same_t T4b refl)

  as21 : (key : List ℕ) → rule21 key b ≡ rule21 key a
  unfolding rule21
  as21 key = rw (same_t T3 refl, same_t T4b refl)

  as22 : rule22 b ≡ rule22 a
  unfolding rule22
  as22 = rw (same_t T5 refl, same_t T6 refl, same_t T7a refl, same_t T7b refl)

  as23 : rule23 b ≡ rule23 a
  unfolding rule23
  as23 = rw (transfer_as, cheque_as)

  as24 : rule24 b ≡ rule24 a
  unfolding rule24
  as24 = rw (same_t T21 refl, cheque_as)

  as25 : rule25 page b ≡ rule25 page a
  unfolding rule25
  as25 = rw (cheque_as, blank_t T8, same_t T9a refl, blank_t T9b)

  as26 : (list : List ℕ) → rule26 page list b ≡ rule26 page list a
  unfolding rule26
  as26 list = rw (transfer_as, bic_t, same_t T9a refl)

  as27 : rule27 page b ≡ rule27 page a
  unfolding rule27
  as27 = rw (transfer_as, bic_t, blank_t T9b)

  as28 : (transfer cheque : List ℕ) → rule28 transfer cheque b ≡ rule28 transfer cheque a
  unfolding rule28
  as28 transfer cheque = rw (transfer_as, cheque_as, same_t T10a refl)

  as29 : rule29 page b ≡ rule29 page a
  unfolding rule29
  as29 =
      rw (
        cheque_as,
        line_as page t_texts a b r (t_place T10b) 1,
        line_as page t_texts a b r (t_place T10b) 3,
        line_as page t_texts a b r (t_place T10b) 4,
      )

  as30 : rule30 b ≡ rule30 a
  unfolding rule30
  as30 = rw (same_t T11 refl)

  as31 : rule31 page b ≡ rule31 page a
  unfolding rule31
  as31 =
      let t12 = char page (part (t_place T12) b) (part (t_place T12) a) (r.read (t_place T12)) in
      rw (transfer_as, cheque_as, t12 0, t12 1, blank_t T12)

  as32 : rule32 b ≡ rule32 a
  unfolding rule32
  as32 = rw (same_t T13 refl)

  as33 : rule33 b ≡ rule33 a
  unfolding rule33
  as33 = rw (same_t T14a refl, same_t T14b refl)

  as34 : rule34 b ≡ rule34 a
  unfolding rule34
  as34 = rw (same_t T16 refl, same_t T17 refl, same_t T18 refl, same_t T19 refl, same_t T25 refl, same_t T27 refl)

  as35 : rule35 b ≡ rule35 a
  unfolding rule35
  as35 = rw (same_t T26 refl)

  pub t_as : (transfer cheque key : List ℕ) (rule : ℕ) → t_fault page transfer cheque key b rule ≡ t_fault page transfer cheque key a rule
  unfolding t_fault
  t_as transfer cheque key rule =
      rw (as20, as21 key, as22, as23, as24, as25, as26 transfer, as27, as28 transfer cheque, as29, as30, as31, as32, as33, as34, as35)

  pub euros_as : euros b ≡ euros a
  euros_as = ap dec (same_t T14a refl)

  pub cents_as : cents b ≡ cents a
  cents_as = ap (λ (l : List ℕ). dec (part (0 to 1) l)) (same_t T14b refl)
