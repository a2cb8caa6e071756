-- The cells of a record at places, and under the names of columns.
use Rattle.std.specs.Prelude.{ℕ, List, [], Option, map, option_and_then, unwrap_or}
use Rattle.csv.specs.Records.{field_at}
use Rattle.keyed_columns.specs.Headers.{place_under}
use Rattle.keyed_columns.specs.declared.columns.Columns.{Columns}
use Rattle.keyed_columns.specs.declared.content.Content.{Content}

-- the cell at a place, and an empty one where there is no place or no cell
abbrev pub cell_at : List (List ℕ) → Option ℕ → List ℕ
cell_at fields place = unwrap_or (option_and_then (field_at fields) place) []

-- the cell of a record under the name of a column, and an empty one where no column has the name
abbrev pub cell_under : Content → List (List ℕ) → List (List ℕ) → List ℕ → List ℕ
cell_under kind names fields name = cell_at fields (place_under kind names name)

-- the cells of a record under the names of columns: those of the key, and the others
abbrev pub row_under : Content → List (List ℕ) → Columns → List (List ℕ) → List (List ℕ) × List (List ℕ)
row_under kind names columns fields = (map (cell_under kind names fields) columns.key, map (cell_under kind names fields) columns.rest)
