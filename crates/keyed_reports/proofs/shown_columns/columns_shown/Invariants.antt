use Rattle.std.proofs.Common.{◌≡◌, map, option_map, take}
use Rattle.either_or_both.specs.Prelude.{left_place, right_place}
use Rattle.keyed_requests.specs.declared.request.ColumnsShown.TheVariants.{Changed}
use Rattle.keyed_reports.specs.ShownColumns.{columns_shown}
use Rattle.keyed_reports.proofs.shown_columns.columns_shown.Given as goal

abbrev pub invariant-loop-row : goal.invariant-loop-row
invariant-loop-row l = l.shown.items ≡ columns_shown Changed l.alikes l.count
    (map (λ row. (option_map (λ cells. cells.now) (left_place row.1), option_map (λ cells. cells.now) (right_place row.1)))
    (take l.row-index l.rows))
