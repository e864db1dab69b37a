-- Fields that stand by rising place: the first wrong one is the lowest-placed.
use Prim.Native.Nat.{ℕ, ◌≤◌}
use mathlib.Core.Path.{◌≡◌, refl, sym, subst, ◌∙◌}
use mathlib.Core.Bool.{Bool, true, false, ◌&&◌, cond, false≢true}
use mathlib.Core.List.{[], ◌∷◌}
use mathlib.Core.Logic.{inl, inr}
use native.Mathlib.Omega.{arith}
use lib.Dec.{leb, T, leb→le}
use Rattle.rules.specs.Wrong.{Fields, first_wrong}
use Rattle.demands.specs.Where.{WrongAt, Lowest}

-- by rising place, from an offset on
abbrev pub rises : ℕ → Fields → Bool
rises from [] = true
rises from (field ∷ fields) = leb from field.0 && rises field.0 fields

first_rises : (from : ℕ) (field : ℕ × Bool) (fields : Fields) → T (rises from (field ∷ fields)) → (from ≤ field.0) × T (rises field.0 fields)
first_rises from field fields t = go (leb from field.0) refl t
  where
    go : (b : Bool) → leb from field.0 ≡ b → T (b && rises field.0 fields) → (from ≤ field.0) × T (rises field.0 fields)
    go true e t = (leb→le from field.0 (subst T (sym e) tt), t)
    go false e t = absurd t

-- so a wrong field is not below the first offset
pub above : (from : ℕ) (fields : Fields) → T (rises from fields) → (at : ℕ) → WrongAt fields at → from ≤ at
above from [] t at w = absurd w
above from (field ∷ fields) t at (inl w) = omega (arith, (first_rises from field fields t).0, w.0)
above from (field ∷ fields) t at (inr w) =
    let r = first_rises from field fields t in
    omega (arith, r.0, above field.0 fields r.1 at w)

pub lowest_first : (from : ℕ) (fields : Fields) → T (rises from fields) → (first_wrong fields ≡ 0 → ⊥) → Lowest fields (first_wrong fields)
lowest_first from [] t n = absurd (n refl)
lowest_first from (field ∷ fields) t n = go field.1 refl n (lowest_first field.0 fields r.1)
  where
    r : (from ≤ field.0) × T (rises field.0 fields)
    r = first_rises from field fields t

    later : (at : ℕ) → field.1 ≡ true → ((other : ℕ) → WrongAt fields other → at ≤ other)
        → (other : ℕ) → WrongAt (field ∷ fields) other → at ≤ other
    later at e low other (inl w) = absurd (false≢true (sym w.1 ∙ e))
    later at e low other (inr w) = low other w

    first : (other : ℕ) → WrongAt (field ∷ fields) other → field.0 ≤ other
    first other (inl w) = omega (arith, w.0)
    first other (inr w) = above field.0 fields r.1 other w

    go : (right : Bool) → field.1 ≡ right → (cond right (first_wrong fields) field.0 ≡ 0 → ⊥)
        → ((first_wrong fields ≡ 0 → ⊥) → Lowest fields (first_wrong fields)) → Lowest (field ∷ fields) (cond right (first_wrong fields) field.0)
    go true e n rest =
        let l = rest n in
        record { wrong = inr l.wrong; none_lower = later (first_wrong fields) e l.none_lower }
    go false e n rest = record { wrong = inl (refl, e); none_lower = first }
