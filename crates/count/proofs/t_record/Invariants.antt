use Rattle.std.proofs.Common.{◌≡◌, ◌≤◌, ◌*◌}
use Rattle.forwarding.specs.Fields.{field_changes}
use Rattle.forwarding.specs.Numbered.{texts_below}
use Rattle.count.proofs.t_record.Given as goal

-- The count so far is that of the fields with a number below k.
abbrev pub invariant-loop-k : goal.invariant-loop-k
invariant-loop-k l = record {
  few : l.n ≤ 140 * l.k;
  below : l.n ≡ field_changes (texts_below l.k) l.rec;
}
