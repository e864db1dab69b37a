-- The text fields of a T record by their numbers, 2 to 9, as a loop over them meets them.
use Rattle.std.specs.Prelude.{ℕ, zero, suc, ◌+◌, ◌-◌, ◌≤◌, ◌<◌, ◌≡◌, refl, Bool, List, [], ◌∷◌, ◌++◌, leb, ltb, T, length, take, drop}
use Rattle.std.proofs.Common.{sym, ap, subst, ◌∙◌, ⊎_elim, eq-or-lt_of_le, arith, leb→le, ltb→lt, take-append-drop, length-take-le, take-take}
use Rattle.std.proofs.lemmas.List.{drop_all}
use Rattle.records.specs.Places.{t_text}
use Rattle.records.specs.declared.Span.{Span}
use Rattle.forwarding.specs.Text.{t_texts}

-- those of a number below k
abbrev pub texts_below : ℕ → List Span
texts_below k = take (k - 2) t_texts

-- and of these those from a number on
abbrev pub texts_from : ℕ → ℕ → List Span
texts_from first k = drop (first - 2) (texts_below k)

drop_front : (n : ℕ) (xs ys : List Span) → n ≤ length xs → drop n (xs ++ ys) ≡ drop n xs ++ ys
drop_front zero xs ys h = refl
drop_front (suc n) [] ys h = absurd (omega arith)
drop_front (suc n) (x ∷ xs) ys h = drop_front n xs ys (omega arith)

-- what holds at each of n numbers from i on holds at k
abbrev Each : (ℕ → Type 0) → ℕ → ℕ → Type 0
Each P i zero = Unit {0}
Each P i (suc n) = P i × Each P (suc i) n

each : (P : ℕ → Type 0) (n i : ℕ) → Each P i n → (k : ℕ) → i ≤ k → k < i + n → P k
each P zero i all k h l = absurd (omega arith)
each P (suc n) i all k h l =
    ⊎_elim (λ (e : i ≡ k). subst P e all.0) (λ (m : i < k). each P n (suc i) all.1 k m (omega arith)) (eq-or-lt_of_le h)

module _ (k : ℕ) (low : 2 ≤ k) (high : k < 10) where
  pub texts_more : texts_below (k + 1) ≡ texts_below k ++ (t_text k ∷ [])
  texts_more =
      each (λ k. texts_below (k + 1) ≡ texts_below k ++ (t_text k ∷ [])) 8 2
      (refl, (refl, (refl, (refl, (refl, (refl, (refl, (refl, tt)))))))) k low high

  tested : (test : Span → Bool) → Each (λ k. T (test (t_text k))) 2 8 → T (test (t_text k))
  tested test all = each (λ k. T (test (t_text k))) 8 2 all k low high

  -- no text field has more than 140 characters
  pub text_short : (t_text k).end - (t_text k).start ≤ 140
  text_short = leb→le _ _ (tested (λ s. leb (s.end - s.start) 140) (tt, (tt, (tt, (tt, (tt, (tt, (tt, (tt, tt)))))))))

  -- and none is without any
  pub text_wide : (t_text k).start < (t_text k).end
  text_wide = ltb→lt _ _ (tested (λ s. ltb s.start s.end) (tt, (tt, (tt, (tt, (tt, (tt, (tt, (tt, tt)))))))))

  -- and behind each stand fifteen bytes more of its record
  pub text_before : (t_text k).end + 15 ≤ 768
  text_before = leb→le _ _ (tested (λ s. leb (s.end + 15) 768) (tt, (tt, (tt, (tt, (tt, (tt, (tt, (tt, tt)))))))))

  -- from a number on, one more
  pub texts_from_more : (first : ℕ) → first ≤ k → texts_from first (k + 1) ≡ texts_from first k ++ (t_text k ∷ [])
  texts_from_more first low' =
      let long = length-take-le (k - 2) t_texts (omega arith) in
      ap (drop (first - 2)) texts_more ∙ drop_front (first - 2) (texts_below k) (t_text k ∷ []) (omega arith)

pub texts_from_none : (first : ℕ) → 2 ≤ first → first ≤ 10 → texts_from first first ≡ []
texts_from_none first low high =
    let long = length-take-le (first - 2) t_texts (omega arith) in
    drop_all (first - 2) (texts_below first) (omega arith)

-- those up to a number, and the rest
pub texts_from_rest : (first j end : ℕ) → 2 ≤ j → first ≤ j → j ≤ end → end ≤ 10
    → texts_from first end ≡ texts_from first j ++ drop (j - 2) (texts_below end)
texts_from_rest first j end low behind before high =
    let long = length-take-le (j - 2) t_texts (omega arith) in
    let front : take (j - 2) (texts_below end) ≡ texts_below j = take-take (j - 2) (end - 2) t_texts (omega arith) in
    let whole = sym (take-append-drop (j - 2) (texts_below end)) ∙ ap (λ (l : List Span). l ++ drop (j - 2) (texts_below end)) front in
    ap (drop (first - 2)) whole ∙ drop_front (first - 2) (texts_below j) (drop (j - 2) (texts_below end)) (omega arith)
