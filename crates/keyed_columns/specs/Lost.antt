-- The columns that go, and the cells that are lost with them.
use Rattle.std.specs.Prelude.{◌==◌, ℕ, Bool, false, not, true, List, drop, filter, length}
use Rattle.std.specs.List.{list_any}
use Rattle.keyed_columns.specs.declared.columns.Columns.{Columns}
use Rattle.keyed_columns.specs.declared.columns.Place.{Place}
use Rattle.keyed_columns.specs.declared.columns.Place.TheVariants as at

-- whether the cell of a column is none of the key
abbrev pub is_rest : Place → Bool
is_rest (at.Key place) = false
is_rest at.Rest = true

-- how many of the cells after a key are written; those after them are of columns that go
abbrev pub count_written : Columns → ℕ
count_written columns = length (filter is_rest columns.order.items)

abbrev pub is_filled : List ℕ → Bool
is_filled cell = not (length cell == 0)

-- whether a row of a group has a cell that is not empty after so many
abbrev pub loses_cells : ℕ → List (List (List ℕ)) → Bool
loses_cells written rows = list_any (λ row. list_any is_filled (drop written row)) rows
