use Rattle.std.proofs.Common.{◌≡◌, ◌++◌, ◌∷◌, [], List, map, take}
use Rattle.std.specs.List.{AllZip}
use Rattle.keyed_layout.specs.Lines.{IsLineOf, picked_cells}
use Rattle.keyed_layout.specs.declared.lined_up.Line.{Line}
use Rattle.keyed_reports.specs.RowChanges.{row_behind}
use Rattle.keyed_reports.specs.TableLines.{IsLineOfRow}
use Rattle.keyed_reports.proofs.table.grid_of.Given as goal

abbrev pub invariant-loop-row : goal.invariant-loop-row
invariant-loop-row l = (heading : Line) × (lines : List Line) × (l.grid.items ≡ heading ∷ lines)
    × IsLineOf [] (l.report.columns.now.key ++ picked_cells l.shown l.report.columns.now.rest) heading
    × AllZip (IsLineOfRow l.report.alikes.now l.shown) (map row_behind (take l.row-index l.report.rows.now)) lines
