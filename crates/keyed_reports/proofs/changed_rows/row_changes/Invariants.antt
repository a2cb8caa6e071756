use Rattle.std.proofs.Common.{◌≡◌, map, take}
use Rattle.keyed_reports.specs.RowChanges.{row_behind, row_changes, rows_eq}
use Rattle.keyed_reports.proofs.changed_rows.row_changes.Given as goal

abbrev pub invariant-loop-key : goal.invariant-loop-key
invariant-loop-key l = map row_behind l.rows.items ≡ row_changes rows_eq l.groups (take l.key-index l.changes)
