use Rattle.std.proofs.Common.{◌≡◌, map, take}
use Rattle.csv.specs.Records.{fields_of}
use Rattle.keyed_columns.specs.CellsUnder.{cell_at}
use Rattle.keyed_files.proofs.source.pick.Given as goal

abbrev pub invariant-loop-place : goal.invariant-loop-place
invariant-loop-place l = l.picked ≡ map (cell_at (fields_of l.from)) (take l.place-index l.places)
