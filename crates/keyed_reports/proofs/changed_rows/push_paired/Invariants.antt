use Rattle.std.proofs.Common.{◌≡◌, ◌++◌, map}
use Rattle.either_or_both.specs.Prelude.{map_places}
use Rattle.keyed_reports.specs.RowChanges.{row_behind}
use Rattle.keyed_reports.proofs.changed_rows.push_paired.Given as goal

abbrev pub invariant-loop-row : goal.invariant-loop-row
invariant-loop-row l = map row_behind l.rows.items
    ≡ map row_behind l.fn.rows.items ++ map (λ row. (l.key, map_places (λ cells. cells.now) (λ cells. cells.now) row)) l.yielded
