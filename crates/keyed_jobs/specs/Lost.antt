-- The cells that are lost with columns that go.
use Rattle.std.specs.Prelude.{◌&&◌, ℕ, Bool, List, length, ltb}
use Rattle.std.specs.List.{list_any}
use Rattle.keyed_columns.specs.Lost.{count_written, loses_cells}
use Rattle.keyed_columns.specs.declared.columns.Columns.{Columns}

-- whether a column goes and one of the rows has a cell there that is not empty
abbrev pub loses : {K : Type 0} → Columns → List (K × List (List (List ℕ))) → Bool
loses columns rows = ltb (count_written columns) (length columns.rest) && list_any (λ row. loses_cells (count_written columns) row.1) rows
