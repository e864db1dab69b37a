-- The pages that there are, by the test that the calls make.
use Prim.Native.Nat.{ℕ}
use mathlib.Core.Path.{◌≡◌, refl, sym, ap, ◌∙◌}
use mathlib.Core.Bool.{Bool, true, false, ◌||◌, cond, false≢true}
use mathlib.Core.Logic.{inl, inr}
use borrow.Author.Tests.{eqb-true}
use lib.Dec.{eqb}
use Rattle.laws.specs.Choice.{on, off}
use Rattle.charset.specs.Table.{is_page, rep, rep_rep}
use Rattle.demands.specs.Page.{Page, TablesStay, GermanRead}

module _ (page : ℕ) where
  pub page_is_there : Page page → is_page page ≡ true
  page_is_there (inl e) = ap is_page e
  page_is_there (inr e) = ap is_page e

  pub page_is : is_page page ≡ true → Page page
  page_is = go (eqb page 0) (eqb page 1) refl refl
    where
      go : (din iso : Bool) → eqb page 0 ≡ din → eqb page 1 ≡ iso → din || iso ≡ true → Page page
      go true iso p q h = inl (eqb-true page 0 p)
      go false true p q h = inr (eqb-true page 1 q)
      go false false p q h = absurd (false≢true h)

  pub no_page : (Page page → ⊥) → is_page page ≡ false
  no_page n = go (is_page page) refl
    where
      go : (there : Bool) → is_page page ≡ there → there ≡ false
      go true e = absurd (n (page_is e))
      go false e = refl

  -- a call that answers y where there is no such page, and else x
  module _ {A : Type 0} (number : A → ℕ) (x y answer : A) (e : answer ≡ cond (is_page page) x y) where
    pub on_page : Page page → answer ≡ x
    on_page p = e ∙ sym (on y (page_is_there p) refl)

    pub one_answer : (Page page → ⊥) → answer ≡ y
    one_answer n = e ∙ sym (off x (no_page n) refl)

    pub never_7 : (number x ≡ 7 → ⊥) → Page page → number answer ≡ 7 → ⊥
    never_7 other p z = other (sym (ap number (on_page p)) ∙ z)

pub tables_stay : TablesStay
tables_stay page p = rep_rep page

pub german_read : GermanRead
unfolding rep
german_read = record { on_page_0 = refl; on_page_1 = refl; small_on_page_0 = refl; small_on_page_1 = refl }
