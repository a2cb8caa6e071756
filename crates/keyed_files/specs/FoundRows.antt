-- The rows that a look-up is written as.
use Rattle.std.specs.Prelude.{ℕ, List, [], ◌++◌, Option, map, unwrap_or}
use Rattle.keyed_columns.specs.declared.columns.JoinColumns.{JoinColumns}
use Rattle.keyed_columns.specs.Placed.{placed}

-- the cells that were found, or as many empty ones as the right table has beside its key
abbrev pub found_cells : JoinColumns → Option (List (List ℕ)) → List (List ℕ)
found_cells columns found = unwrap_or found (map (λ name. []) columns.right.rest)

-- a row of the left table in the order of its columns, and after it what was found
abbrev pub found_row : JoinColumns → List (List ℕ) → List (List ℕ) → Option (List (List ℕ)) → List (List ℕ)
found_row columns key rest found = placed columns.left.order.items key rest ++ found_cells columns found
