-- Document 01, "Both sides of each edge" (RULES 12): the cases marked (P), one row each, in one table. That every row
-- holds is one fact. They hold on both code pages, but for case 5, which speaks of page 0: beside it stands its sibling for
-- page 1 (document 02, A2).
use Rattle.std.specs.Prelude.{ℕ, Bool, ◌&&◌, not, List, [], ◌∷◌, ◌++◌, eqb, T}
use Prim.Native.Char.{code}
use Rattle.laws.specs.Ascii.{ascii}
use Rattle.charset.specs.Table.{rep}
use Rattle.fields.specs.Class.{every}
use Rattle.fields.specs.Number.{is_date}
use Rattle.fields.specs.Bic.{bic_shape}
use Rattle.judge.specs.Verdict.{judge_of}
use Rattle.demands.specs.Sample.{q, z, one, two, transfer, cheque}

-- on both pages
abbrev on_both : (ℕ → Bool) → Bool
on_both holds = holds 0 && holds 1

-- the judge's answer to a file, without taken numbers: number and record
abbrev answers : List ℕ → ℕ → ℕ → Bool
answers file number rec =
    on_both
    (λ page.
    let v = judge_of page file transfer cheque [] in
    eqb v.number number && eqb v.rec rec)

-- a case's number in document 01, and whether it holds
abbrev pub cases : List (ℕ × Bool)
cases =
    (1, answers [] 2 0)
    ∷ (2, answers (ascii "0256") 2 0)
    ∷ (3, answers (q ++ z "000000000000000" "000000000000000") 4 1)
    ∷ (4, on_both (λ page. eqb (rep page (code "&")) (code "+")))
    ∷ (5, eqb (rep 0 0x5B) (code "A") && eqb (rep 0 0xC4) (code " "))
    ∷ (5, eqb (rep 1 0xC4) (code "A") && eqb (rep 1 0x5B) (code " "))
    ∷ (6, is_date (ascii "000229"))
    ∷ (7, not (is_date (ascii "010229")))
    ∷ (8, on_both (λ page. bic_shape page (ascii "ABCDDEFF   ")))
    ∷ (9, on_both (λ page. not (bic_shape page (ascii "SC123456   "))))
    ∷ (10, answers (one "A. MUSTER" "500") 0 0 && answers (one "A. MUSTER" "505") 33 1)
    ∷ (11, answers (one "===================================" "500") 29 1)
    ∷ (12, answers (two "B. MUSTER" "000000000000199") 0 0 && answers (two "B. MUSTER" "000000000000200") 42 3)
    ∷ []

abbrev pub Cases : Type 0
Cases = T (every (λ (row : ℕ × Bool). row.1) cases)
