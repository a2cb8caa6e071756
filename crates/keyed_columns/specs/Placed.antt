-- The cells of a key and of what stands under it, in the order of columns.
use Rattle.std.specs.Prelude.{ℕ, List, [], ◌∷◌, Option, Some, None, drop, slice_get, unwrap_or}
use Rattle.keyed_columns.specs.declared.columns.Columns.{Columns}
use Rattle.keyed_columns.specs.declared.columns.Place.{Place}
use Rattle.keyed_columns.specs.declared.columns.Place.TheVariants as at

-- the cell of a column: that of the key at its place, or the next one of the others; an empty one where the row has none there
abbrev pub cell_placed : Place → List (List ℕ) → List (List ℕ) → List ℕ
cell_placed (at.Key place) key rest = unwrap_or (slice_get key place) []
cell_placed at.Rest key rest = unwrap_or (slice_get rest 0) []

-- the other cells that are left after a column
abbrev pub rest_behind : Place → List (List ℕ) → List (List ℕ)
rest_behind (at.Key place) rest = rest
rest_behind at.Rest rest = drop 1 rest

-- the cells of a key and the others, in the order of columns
unfoldable pub placed : List Place → List (List ℕ) → List (List ℕ) → List (List ℕ)
placed [] key rest = []
placed (place ∷ order) key rest = cell_placed place key rest ∷ placed order key (rest_behind place rest)

-- a cell that stands before the others, if there is one
abbrev pub first_cells : Option (List ℕ) → List (List ℕ)
first_cells None = []
first_cells (Some cell) = cell ∷ []

-- the names of columns in their order
abbrev pub names_placed : Columns → List (List ℕ)
names_placed columns = placed columns.order.items columns.key columns.rest

-- the same as a heading spells them
abbrev pub names_headed : Columns → List (List ℕ)
names_headed columns = unwrap_or columns.spelled (names_placed columns)
