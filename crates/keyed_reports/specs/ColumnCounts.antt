-- What became of the cell of a row at a place, where the row stands in both tables.
use Rattle.std.specs.Prelude.{ℕ, Bool, List, Option, Some, None, is_some, slice_get, option_and_then, if◌then◌else◌}
use Rattle.keyed_numbers.specs.Decimals.{same_cell}
use Rattle.keyed_numbers.specs.declared.alike.Alike.{Alike}

-- the cell that a version of a row has at a place, where the row stands in that version
abbrev pub cell_at : ℕ → Option (List (List ℕ)) → Option (List ℕ)
cell_at place version = option_and_then (λ cells. slice_get cells place) version

-- what became of two cells that differ
abbrev pub change_of : Alike → Option (List ℕ) → Option (List ℕ) → Option (List ℕ × List ℕ)
change_of alike (Some cell) (Some next) = if same_cell alike cell next then None else Some (cell, next)
change_of alike (Some cell) None = None
change_of alike None next = None

-- what became of the cell of a row at a place, if the row stands in both tables and its cells there differ
abbrev pub change_at : Alike → ℕ → Option (List (List ℕ)) → Option (List (List ℕ)) → Option (List ℕ × List ℕ)
change_at alike place old new = change_of alike (cell_at place old) (cell_at place new)

-- whether the row changed there
abbrev pub is_changed_at : Alike → ℕ → Option (List (List ℕ)) → Option (List (List ℕ)) → Bool
is_changed_at alike place old new = is_some (change_at alike place old new)
