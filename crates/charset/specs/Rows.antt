-- What a character becomes, by the tests of the table in its own order: unchanged, &, $, and then the page. `r` is what
-- `unchanged` answered of it.
use Rattle.std.specs.Prelude.{ℕ, zero, suc, ◌≡◌, Bool, true, false, ◌||◌, cond, List, [], ◌∷◌, eqb, refl}
use Prim.Native.Char.{code}
use Rattle.std.proofs.Common.{sym, ap, ◌∙◌, ne_eqb}
use Rattle.std.proofs.lemmas.Bool.{false≢true}
use Rattle.laws.specs.Choice.{on_call, off_call, on_eq, off_eq, neither, either}
use Rattle.charset.specs.Table.{unchanged, exceptions, german, look, rep, other_page}

module _ (page b : ℕ) {r : Bool} (e : r ≡ unchanged b) where
  pub stays : r ≡ true → b ≡ rep page b
  unfolding rep
  stays kept = on_call _ e kept refl

  module _ (other : r ≡ false) where
    pub ampersand : b ≡ code "&" → code "+" ≡ rep page b
    unfolding rep
    ampersand is = off_call _ e other (on_eq _ is refl)

    module _ (no-ampersand : b ≡ code "&" → ⊥) where
      pub dollar : b ≡ code "$" → code "S" ≡ rep page b
      unfolding rep
      dollar is = off_call _ e other (off_eq _ no-ampersand (on_eq _ is refl))

      module _ (no-dollar : b ≡ code "$" → ⊥) {z : ℕ} where
        by_page : z ≡ look (german page) b → z ≡ rep page b
        unfolding rep
        by_page row = off_call _ e other (off_eq _ no-ampersand (off_eq _ no-dollar row))

        pub page_0 : page ≡ 0 → z ≡ look (german 0) b → z ≡ rep page b
        page_0 is row = by_page (row ∙ ap (λ (p : ℕ). look (german p) b) (sym is))

        pub page_1 : (page ≡ 0 → ⊥) → z ≡ look (german 1) b → z ≡ rep page b
        page_1 is row = by_page (row ∙ sym (other_page page b is))

-- what no row yields, only that character itself becomes: / is one, on both pages
abbrev yields : ℕ → List (ℕ × ℕ) → Bool
yields v [] = eqb (code " ") v
yields v (row ∷ rows) = eqb row.1 v || yields v rows

look_other : (v : ℕ) (rows : List (ℕ × ℕ)) (b : ℕ) → yields v rows ≡ false → eqb (look rows b) v ≡ false
look_other v [] b e = e
look_other v (row ∷ rows) b e =
    let n = neither (eqb row.1 v) (yields v rows) e in
    either (λ (c : ℕ). eqb c v ≡ false) (eqb b row.0) row.1 (look rows b) n.0 (look_other v rows b n.1)

no_row_slash : (page : ℕ) → yields (code "/") (exceptions page) ≡ false
no_row_slash zero = refl
no_row_slash (suc _) = refl

pub slash_rep : (page b : ℕ) → eqb (rep page b) (code "/") ≡ eqb b (code "/")
unfolding rep
slash_rep page b = go (unchanged b) refl
  where
    go : (kept : Bool) → unchanged b ≡ kept → eqb (cond kept b (look (exceptions page) b)) (code "/") ≡ eqb b (code "/")
    go true e = refl
    go false e =
        look_other (code "/") (exceptions page) b (no_row_slash page)
        ∙ sym (ne_eqb b (code "/") (λ q. false≢true (sym e ∙ ap unchanged q)))
