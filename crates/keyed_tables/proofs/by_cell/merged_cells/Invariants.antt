use Rattle.std.proofs.Common.{◌≡◌, ◌++◌, map, zip}
use Rattle.std.specs.Iterator.Adapters.{zip_first, zip_second}
use Rattle.keyed_tables.specs.RowsByCell.{cell_of}
use Rattle.keyed_tables.proofs.by_cell.merged_cells.Given as goal

abbrev pub invariant-loop-old : goal.invariant-loop-old
invariant-loop-old l =
    l.row ++ map cell_of (zip (zip_first l.old-iterator) (zip (zip_first (zip_second l.old-iterator)) (zip_second (zip_second l.old-iterator)))) ≡ map cell_of (zip l.base (zip l.ours l.theirs))
