-- A place that is nowhere, as none.
use Rattle.std.specs.Prelude.{◌≡◌, Option, None, Some, Bool, true, false, cond, eqb, refl}
use Rattle.std.proofs.Common.{ap, ◌∙◌, eqb-true}
use Rattle.records.specs.declared.Span.{Span}

abbrev pub somewhere : Span → Option Span
somewhere s = cond (eqb s.end 0) None (Some s)

-- what is somewhere is that place
pub is_there : (p : Span) {s : Span} → Some s ≡ somewhere p → s ≡ p
is_there p {s} e = ap (or_else p) e ∙ there (eqb p.end 0)
  where
    or_else : Span → Option Span → Span
    or_else p None = p
    or_else p (Some s) = s

    there : (b : Bool) → or_else p (cond b None (Some p)) ≡ p
    there true = refl
    there false = refl

-- and what is not there ends at 0
pub is_none : (p : Span) → None ≡ somewhere p → p.end ≡ 0
is_none p e = go (eqb p.end 0) refl e
  where
    go : (b : Bool) → eqb p.end 0 ≡ b → None ≡ cond b None (Some p) → p.end ≡ 0
    go true h e = eqb-true p.end 0 h
    go false h e = cc
