use Rattle.std.proofs.Common.{◌≡◌, ◌++◌, drop, take}
use Rattle.charset.specs.Table.{text}
use Rattle.charset.proofs.replace.Given as goal

-- What is replaced so far, and the rest as the table will have it, is the whole as the table has it.
abbrev pub invariant-loop-i : goal.invariant-loop-i
invariant-loop-i l = take l.i l.part ++ text l.page (drop l.i l.part) ≡ text l.page l.initial.part
