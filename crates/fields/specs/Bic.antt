-- Document 01, "BIC shape (ISO 9362, as in source document 003)" (RULES 5.4): four capitals, two capitals, two capitals
-- or digits, then three spaces or three capitals or digits, of the replaced characters of T8.
use Rattle.std.specs.Prelude.{ℕ, Bool, ◌&&◌, ◌||◌, List, take, drop}
use Rattle.charset.specs.Table.{text}
use Rattle.fields.specs.Class.{all_of}
use Rattle.fields.specs.declared.Class.TheVariants.{Space, Capital, CapitalOrDigit}

unfoldable pub bic_shape : ℕ → List ℕ → Bool
bic_shape page t8 =
    all_of Capital (text page (take 4 (drop 0 t8)))
    && all_of Capital (text page (take 2 (drop 4 t8)))
    && all_of CapitalOrDigit (text page (take 2 (drop 6 t8)))
    && (all_of Space (text page (take 3 (drop 8 t8))) || all_of CapitalOrDigit (text page (take 3 (drop 8 t8))))
