use Rattle.std.proofs.Common.{◌≡◌, ◌-◌, ℕ, List, filter, map, take}
use Rattle.std.specs.List.{enumerate_from}
use Rattle.keyed_reports.specs.RowChanges.{count_in, count_of, is_lone, rows_eq}
use Rattle.keyed_reports.proofs.changed_rows.lone_rows.Given as goal

abbrev pub invariant-loop-row : goal.invariant-loop-row
invariant-loop-row l = record {
  left : (row : List (List ℕ)) → count_in l.counts row
      ≡ count_of rows_eq row l.others - count_of rows_eq row (take l.row-index l.rows);
  found : map (λ row. row.now) l.lone.items
      ≡ map (λ row. row.1) (filter (is_lone rows_eq l.rows l.others) (take l.row-index (enumerate_from 0 l.rows)));
}
