use Rattle.std.proofs.Common.{◌≡◌, ◌++◌, map, take}
use Rattle.eob_both.specs.declared.either_or_both.EitherOrBoth.TheVariants.{Right}
use Rattle.keyed_reports.specs.RowChanges.{row_behind}
use Rattle.keyed_reports.proofs.changed_rows.push_added.Given as goal

abbrev pub invariant-loop-row : goal.invariant-loop-row
invariant-loop-row l = map row_behind l.rows.items ≡ map row_behind l.fn.rows.items ++ map (λ row. (l.key, Right row.now)) (take l.row-index l.come)
