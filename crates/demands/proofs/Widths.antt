-- A test of every element, by place.
use Prim.Native.Nat.{ℕ, zero, suc, ◌<◌}
use mathlib.Core.Path.{◌≡◌, refl, sym, ap, ap₂, ◌∙◌}
use mathlib.Core.Bool.{Bool, true, ◌&&◌}
use mathlib.Core.List.{List, [], ◌∷◌, map}
use native.Mathlib.Omega.{arith}
use lib.ListN.{length, get_or}
use Rattle.laws.specs.Choice.{both}
use Rattle.charset.specs.Table.{rep}
use Rattle.fields.specs.Class.{member, every, all_of}
use Rattle.demands.specs.Widths.{AnyWidth, AnyWidthOfText}

module _ (test : ℕ → Bool) where
  each : (s : List ℕ) → every test s ≡ true → (i : ℕ) → i < length s → test (get_or s i 0) ≡ true
  each [] e i h = absurd (omega (arith, h))
  each (x ∷ s) e zero h = (both (test x) (every test s) e).0
  each (x ∷ s) e (suc i) h = each s (both (test x) (every test s) e).1 i (omega (arith, h))

  all : (s : List ℕ) → ((i : ℕ) → i < length s → test (get_or s i 0) ≡ true) → every test s ≡ true
  all [] h = refl
  all (x ∷ s) h = ap₂ ◌&&◌ (h 0 (omega arith)) (all s (λ i l. h (suc i) (omega (arith, l))))

  every_map : (f : ℕ → ℕ) (s : List ℕ) → every test (map f s) ≡ every (λ (x : ℕ). test (f x)) s
  every_map f [] = refl
  every_map f (x ∷ s) = ap (λ (b : Bool). test (f x) && b) (every_map f s)

pub any_width : AnyWidth
unfolding all_of
any_width class field = (each (member class) field, all (member class) field)

pub any_width_of_text : AnyWidthOfText
unfolding all_of
any_width_of_text page class field =
    let test : ℕ → Bool = λ x. member class (rep page x) in
    let mapped = every_map (member class) (rep page) field in
    (λ e. each test field (sym mapped ∙ e), λ h. mapped ∙ all test field h)
