-- Document 01, "What every promise settles" (RULES 14): "Digit, zero and blank tests at any field width rest on a fact
-- proved once over the width." Of any class and any field: the test passes exactly where every byte of it is of the
-- class; and of text, read as replaced characters, every replaced one. "Blank" is this test for spaces.
use Rattle.std.specs.Prelude.{ℕ, ◌<◌, ◌≡◌, true, List, ◌↔◌, length, get_or}
use Rattle.charset.specs.Table.{rep, text}
use Rattle.fields.specs.Class.{member, all_of}
use Rattle.fields.specs.declared.Class.{Class}

abbrev pub AnyWidth : Type 0
AnyWidth =
    (class : Class) (field : List ℕ) → (all_of class field ≡ true) ↔ ((i : ℕ) → i < length field → member class (get_or field i 0) ≡ true)

abbrev pub AnyWidthOfText : Type 0
AnyWidthOfText =
    (page : ℕ) (class : Class) (field : List ℕ)
    → (all_of class (text page field) ≡ true) ↔ ((i : ℕ) → i < length field → member class (rep page (get_or field i 0)) ≡ true)
