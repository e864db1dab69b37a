-- Document 01: numbers in decimal digits (RULES 5.2), and "date YYMMDD (years 2000 to 2099)" (RULES 5.3).
use Rattle.std.specs.Prelude.{ℕ, ◌+◌, ◌*◌, ◌-◌, ◌%◌, Bool, ◌&&◌, ◌||◌, cond, List, eqb, leb, take, drop}
use Prim.Native.Char.{code}
use Rattle.laws.specs.Steps.{fold}
use Rattle.fields.specs.Class.{member, all_of}
use Rattle.fields.specs.declared.Class.TheVariants.{Digit}

-- the value of a digit; any other byte counts as 0, so that a sum is defined for all bytes
abbrev pub digit_of : ℕ → ℕ
digit_of b = cond (member Digit b) (b - code "0") 0

-- the number that the digits write
unfoldable pub dec : List ℕ → ℕ
dec s = fold (λ (v b : ℕ). v * 10 + digit_of b) 0 s

-- the days of a month of a year from 2000 to 2099, of which each fourth is a leap year
abbrev pub days_of : ℕ → ℕ → ℕ
days_of year month =
    cond (eqb month 2) (cond (eqb (year % 4) 0) 29 28) (cond (eqb month 4 || eqb month 6 || eqb month 9 || eqb month 11) 30 31)

-- "date YYMMDD (years 2000 to 2099)"
unfoldable pub is_date : List ℕ → Bool
is_date s =
    let year = dec (take 2 (drop 0 s)) in
    let month = dec (take 2 (drop 2 s)) in
    let day = dec (take 2 (drop 4 s)) in
    all_of Digit s && leb 1 month && leb month 12 && leb 1 day && leb day (days_of year month)
