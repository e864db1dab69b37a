use Rattle.std.proofs.Common.{rules, sym, ◌∙◌}
use Rattle.restore.specs.Told.{no_page, too_short, refuses, restores, notes_in_file}
use Rattle.restore.proofs.give_back.Goals as goal

pub returns-then-not-is_page : goal.returns-then-not-is_page
returns-then-not-is_page c = search (rules, no_page)

pub returns-then-out-forwarded : goal.returns-then-out-forwarded
returns-then-out-forwarded c = search (rules, too_short)

-- what a sound file yields has its notes in the file
pub write-requires : goal.write-requires
write-requires c = (c.if-out-forwarded.false, notes_in_file _ _ _ _ _ (sym c.is_yielded.ensures ∙ c.if-is_yielded.true))

pub returns-then-is_yielded : goal.returns-then-is_yielded
returns-then-is_yielded c = search (rules, restores)

pub returns : goal.returns
returns c = search (rules, refuses)
