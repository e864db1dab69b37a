use Rattle.std.proofs.Common.{◌≡◌, true, length, drop}
use Rattle.restore.specs.ByNotes.{in_file, put_notes}
use Rattle.restore.proofs.put_back.Given as goal

-- The notes that are left, put into what stands in the output now, give what all notes give.
abbrev pub invariant-loop-note : goal.invariant-loop-note
invariant-loop-note l = record {
  inside : in_file (length l.initial.out) (drop l.note-index l.notes) ≡ true;
  put_on : put_notes l.out (drop l.note-index l.notes) ≡ put_notes l.initial.out l.notes;
}
