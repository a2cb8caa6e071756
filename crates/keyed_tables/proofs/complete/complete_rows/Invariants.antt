use Rattle.std.proofs.Common.{◌≡◌}
use Rattle.eob_both.specs.Places.{left_place}
use Rattle.eob_joins.specs.Tables.{kept}
use Rattle.keyed_tables.specs.Completed.{completed_at}
use Rattle.keyed_tables.proofs.complete.complete_rows.Given as goal

abbrev pub invariant-loop-row : goal.invariant-loop-row
invariant-loop-row l = record {
  old : l.old.items ≡ kept left_place l.yielded;
  changes : l.changes.items ≡ kept (completed_at l.missing) l.yielded;
}
