use Rattle.std.proofs.Common.{◌≡◌, length, drop}
use Rattle.charset.specs.Table.{rep}
use Rattle.forwarding.specs.Text.{text_at}
use Rattle.restore.specs.ByNotes.{notes_fit}
use Rattle.restore.proofs.notes_fit.Given as goal

-- Whether the notes that are left fit, from the place after the last one, is whether all fit.
abbrev pub invariant-loop-code : goal.invariant-loop-code
invariant-loop-code l =
    notes_fit (rep l.page) (text_at (length l.file)) l.file l.from (drop l.code-index l.notes)
    ≡ notes_fit (rep l.page) (text_at (length l.file)) l.file 0 l.notes
