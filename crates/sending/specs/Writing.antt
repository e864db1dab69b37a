-- The turn of writing digits, from the last to the first; and Z with the digits of both figures written in.
use Rattle.std.specs.Prelude.{ℕ, zero, suc, ◌+◌, ◌-◌, ◌/◌, ◌%◌, ◌≤◌, ◌<◌, ◌≡◌, take, drop, set}
use Prim.Native.Char.{code}
use Rattle.std.proofs.Common.{sym, ◌∙◌, arith, ap, ap₂, List, [], ◌∷◌, ◌++◌, append_assoc, length, drop_at, length-take-le}
use Rattle.std.proofs.lemmas.List.{set_split}
use Rattle.records.specs.Places.{z_place}
use Rattle.records.specs.declared.Span.{Span}
use Rattle.records.specs.declared.ZField.TheVariants.{Z3, Z4}
use Rattle.forwarding.specs.Put.{put, put_length, put_part}
use Rattle.forwarding.specs.Between.{between, between_long}
use Rattle.place.specs.Placing.{back_as}
use Rattle.sorting.specs.Kept.{digits, fresh_z}
use Rattle.sorting.specs.Digits.{digits_length}

-- what is written, and the digits of the rest before it
pub digit_more : (i v : ℕ) (out : List ℕ) (x : ℕ) → 0 < i → i ≤ length out → x ≡ code "0" + v % 10
    → digits (i - 1) (v / 10) ++ drop (i - 1) (set out (i - 1) x) ≡ digits i v ++ drop i out
digit_more zero v out x h l e = absurd (omega arith)
digit_more (suc j) v out x h l e =
    let back : suc j - 1 ≡ j = omega arith in
    let written : drop j (set out j x) ≡ x ∷ drop (suc j) out =
    ap (drop j) (set_split out j x (omega arith)) ∙ drop_at (take j out) (x ∷ drop (suc j) out) j (length-take-le j out (omega arith)) in
    ap (λ (k : ℕ). digits k (v / 10) ++ drop k (set out k x)) back
    ∙ ap (λ (l : List ℕ). digits j (v / 10) ++ l) (written ∙ ap (λ (d : ℕ). d ∷ drop (suc j) out) e)
    ∙ sym (append_assoc (digits j (v / 10)) ((code "0" + v % 10) ∷ []) (drop (suc j) out))

-- both figures written into a Z
module _ (z : List ℕ) (l : length z ≡ 256) (payments euros : ℕ) where
  with_euros : List ℕ
  with_euros = put 5 (digits 15 euros) z

  with_long : length with_euros ≡ 256
  unfolding with_euros
  with_long = put_length 5 (digits 15 euros) z (omega (arith, digits_length 15 euros)) ∙ l

  euros_in : {s : Span} {d ys : List ℕ} → d ≡ z → s ≡ z_place Z3 → ys ≡ digits (length (between s.start s.end d)) euros
      → back_as s.start s.end ys d ≡ with_euros
  unfolding with_euros
  euros_in {s} {d} {ys} e p q =
      let wide : length (between 5 20 z) ≡ 15 = between_long 5 20 z (omega arith) in
      let here : ys ≡ digits 15 euros =
      q ∙ ap₂ (λ (s : Span) (xs : List ℕ). digits (length (between s.start s.end xs)) euros) p e ∙ ap (λ (w : ℕ). digits w euros) wide in
      ap₂ (λ (s : Span) (xs : List ℕ). back_as s.start s.end ys xs) p e
      ∙ ap (λ (xs : List ℕ). back_as 5 20 xs z) here
      ∙ put_part 5 20 (digits 15 euros) z (omega arith) (digits_length 15 euros)

  pub with_both : {s t : Span} {d ys xs : List ℕ} → d ≡ z → s ≡ z_place Z3 → ys ≡ digits (length (between s.start s.end d)) euros
      → t ≡ z_place Z4 → xs ≡ digits (length (between t.start t.end (back_as s.start s.end ys d))) payments
      → back_as t.start t.end xs (back_as s.start s.end ys d) ≡ fresh_z z payments euros
  unfolding fresh_z with_euros
  with_both {s} {t} {d} {ys} {xs} e p q u v =
      let first = euros_in e p q in
      let wide : length (between 20 35 with_euros) ≡ 15 = between_long 20 35 with_euros (omega (arith, with_long)) in
      let here : xs ≡ digits 15 payments =
      v ∙ ap₂ (λ (s : Span) (xs : List ℕ). digits (length (between s.start s.end xs)) payments) u first ∙ ap (λ (w : ℕ). digits w payments) wide in
      ap₂ (λ (s : Span) (ys : List ℕ). back_as s.start s.end xs ys) u first
      ∙ ap (λ (xs : List ℕ). back_as 20 35 xs with_euros) here
      ∙ put_part 20 35 (digits 15 payments) with_euros (omega arith) (digits_length 15 payments)

  pub room_left : {s : Span} {d ys : List ℕ} → d ≡ z → s ≡ z_place Z3 → ys ≡ digits (length (between s.start s.end d)) euros
      → length (back_as s.start s.end ys d) ≡ 256
  room_left e p q = ap length (euros_in e p q) ∙ with_long
