-- Document 02, A2 (RULES 3, 8): "The caller names the code page, 0 for DIN 66003, 1 for ISO 8859-1." Where the German
-- characters are read, and what the demands need of a table. And the refusal: "any other page number is 7, record and offset
-- 0, before every other number": whatever file, lists and room are handed in, there is one answer, and what was lent is as it
-- was. So no answer depends on a table for a page that does not exist.
use Rattle.std.specs.Prelude.{ℕ, ◌≡◌, List, [], ◌∷◌, ◌⊎◌}
use Rattle.laws.specs.Ascii.{ascii}
use Rattle.charset.specs.Table.{rep, text, OwnReplacement}
use Rattle.judge.specs.Verdict.{refused, JudgedAs}
use Rattle.judge.specs.declared.Verdict.{Verdict}
use Rattle.prepare.specs.Prepared.{not_prepared, PreparedAs}
use Rattle.prepare.specs.declared.Prepared.{Prepared}
use Rattle.restore.specs.Restored.{RestoredAs}
use Rattle.restore.specs.declared.Restored.{Restored}

-- the pages that there are
abbrev pub Page : ℕ → Type 0
Page page = (page ≡ 0) ⊎ (page ≡ 1)

-- "What they need of a table is stated once and shown for both: a replaced character is its own replacement."
abbrev pub TablesStay : Type 0
TablesStay = (page : ℕ) → Page page → OwnReplacement (rep page)

-- the four German characters at their codes on page 0 and on page 1, and the small umlauts. "C4, D6, DC and DF for the four
-- German characters"; "Under 1, hex 5B, 5C, 5D and 7E become spaces like any unlisted byte, small umlauts among them."; of
-- page 0 document 01: "hex 5B becomes A, 5C O, 5D U, 7E S. Every other byte [..] becomes a space"
abbrev pub codes : List ℕ
codes = 0x5B ∷ 0x5C ∷ 0x5D ∷ 0x7E ∷ 0xC4 ∷ 0xD6 ∷ 0xDC ∷ 0xDF ∷ []

abbrev pub small : List ℕ
small = 0x7B ∷ 0x7C ∷ 0x7D ∷ 0xE4 ∷ 0xF6 ∷ 0xFC ∷ []

pub record GermanRead : Type 0 where
  pub on_page_0 : text 0 codes ≡ ascii "AOUS    "
  pub on_page_1 : text 1 codes ≡ ascii "    AOUS"
  pub small_on_page_0 : text 0 small ≡ ascii "      "
  pub small_on_page_1 : text 1 small ≡ ascii "      "

-- never 7 on a page that there is, and the same answer on every other
abbrev pub JudgePage : Type 0
JudgePage =
    (page : ℕ) (file transfer cheque taken : List ℕ) (answer : Verdict) → JudgedAs page file transfer cheque taken answer
    → (Page page → answer.number ≡ 7 → ⊥) × ((Page page → ⊥) → answer ≡ refused 7 0 0)

abbrev pub PreparePage : Type 0
PreparePage =
    (page : ℕ) (file transfer cheque out notes out' notes' : List ℕ) (answer : Prepared)
    → PreparedAs page file transfer cheque out notes answer out' notes'
    → (Page page → answer.number ≡ 7 → ⊥) × ((Page page → ⊥) → (answer ≡ not_prepared 7 0) × (out' ≡ out) × (notes' ≡ notes))

abbrev pub RestorePage : Type 0
RestorePage =
    (page : ℕ) (sent notes transfer cheque out out' : List ℕ) (answer : Restored)
    → RestoredAs page sent notes transfer cheque out answer out'
    → (Page page → answer.number ≡ 7 → ⊥) × ((Page page → ⊥) → (answer ≡ record { number = 7; rec = 0 }) × (out' ≡ out))
