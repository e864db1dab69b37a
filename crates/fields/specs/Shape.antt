-- BIC shape as the code asks for it: of the bytes as they stand, and one part after another.
use Rattle.std.specs.Prelude.{ℕ, ◌≡◌, refl, Bool, true, false, ◌&&◌, ◌||◌, cond, List, take, drop}
use Rattle.std.proofs.Math.Bool.{or-true}
use Rattle.laws.specs.Choice.{both}
use Rattle.charset.specs.Table.{text}
use Rattle.fields.specs.Class.{all_of}
use Rattle.fields.specs.Bic.{bic_shape}
use Rattle.fields.specs.Laws.{all_rep}
use Rattle.fields.specs.declared.Class.TheVariants.{Space, Capital, CapitalOrDigit}

abbrev pub shape_of : List ℕ → Bool
shape_of t8 =
    all_of Capital (take 4 (drop 0 t8)) && all_of Capital (take 2 (drop 4 t8)) && all_of CapitalOrDigit (take 2 (drop 6 t8))
    && (all_of Space (take 3 (drop 8 t8)) || all_of CapitalOrDigit (take 3 (drop 8 t8)))

-- every byte of these classes is unchanged, so the replaced characters have the shape too
pub shape_kept : (page : ℕ) (t8 : List ℕ) → shape_of t8 ≡ true → bic_shape page t8 ≡ true
unfolding bic_shape
shape_kept page t8 e =
    let abc = both _ _ e in
    let ab = both _ _ abc.0 in
    let a = both _ _ ab.0 in
    rw (all_rep page Capital (take 4 (drop 0 t8)) a.0, all_rep page Capital (take 2 (drop 4 t8)) a.1, all_rep page CapitalOrDigit (take 2 (drop 6 t8)) ab.1)
    (go (all_of Space (take 3 (drop 8 t8))) refl abc.1)
  where
    branch : Bool
    branch = all_of CapitalOrDigit (text page (take 3 (drop 8 t8)))

    go : (spaces : Bool) → all_of Space (take 3 (drop 8 t8)) ≡ spaces → spaces || all_of CapitalOrDigit (take 3 (drop 8 t8)) ≡ true
        → all_of Space (text page (take 3 (drop 8 t8))) || branch ≡ true
    go true p q = rw (all_rep page Space (take 3 (drop 8 t8)) p)
    go false p q = rw (all_rep page CapitalOrDigit (take 3 (drop 8 t8)) q) (or-true (all_of Space (text page (take 3 (drop 8 t8)))))

-- the parts in turn
pub by_turns : (bank country place no-branch branch : Bool)
    → bank && country && place && (no-branch || branch) ≡ cond bank (cond country (cond place (cond no-branch true branch) false) false) false
by_turns true true true true branch = refl
by_turns true true true false branch = refl
by_turns true true false no-branch branch = refl
by_turns true false place no-branch branch = refl
by_turns false country place no-branch branch = refl
