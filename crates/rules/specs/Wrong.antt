-- How a rule of document 01 (RULES 6) is stated: fields as they should be, in the order in which they are read.
-- A rule answers 0 where the record keeps it, else the offset of the first field that is not, which is the lowest-placed
-- one in every rule but 33 (fields start at 5, so 0 is free): document 01 asks only whether it is 0, document 02, A1, for
-- the offset. Rules read text only as replaced characters.
use Rattle.std.specs.Prelude.{ℕ, Bool, cond, List, [], ◌∷◌}
use Rattle.records.specs.Places.{part, line_of}
use Rattle.records.specs.declared.Span.{Span}
use Rattle.fields.specs.Class.{blank}

-- the fields that can break a rule, each by its offset and whether it is as it should be
abbrev pub Fields : Type 0
Fields = List (ℕ × Bool)

-- the offset of the first field that is not as it should be
abbrev pub first_wrong : Fields → ℕ
first_wrong [] = 0
first_wrong (row ∷ rows) = cond row.1 (first_wrong rows) row.0

-- line k of a field is blank
unfoldable pub line_blank : ℕ → List ℕ → Span → ℕ → Bool
line_blank page rec field k = blank page (part (line_of field k) rec)
