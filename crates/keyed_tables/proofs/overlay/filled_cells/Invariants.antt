use Rattle.std.proofs.Common.{◌≡◌, ◌++◌, map, zip}
use Rattle.std.specs.Iterator.Adapters.{zip_first, zip_second}
use Rattle.keyed_tables.specs.Laid.{cell_over, filled_cells}
use Rattle.keyed_tables.proofs.overlay.filled_cells.Given as goal

abbrev pub invariant-loop-cell : goal.invariant-loop-cell
invariant-loop-cell l = l.cells ++ map cell_over (zip (zip_first l.cell-iterator) (zip_second l.cell-iterator)) ≡ filled_cells l.below l.above
