use Rattle.std.proofs.Common.{◌≡◌, ℕ, List, take}
use Rattle.keyed_reports.specs.RowChanges.{count_in, count_of, rows_eq}
use Rattle.keyed_reports.proofs.changed_rows.counts_of.Given as goal

abbrev pub invariant-loop-row : goal.invariant-loop-row
invariant-loop-row l = (row : List (List ℕ)) → count_in l.counts row ≡ count_of rows_eq row (take l.row-index l.rows)
