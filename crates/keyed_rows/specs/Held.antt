-- The rows of a group.
use Rattle.std.specs.Prelude.{ℕ, List, [], ◌∷◌}
use Rattle.std.specs.Mem.{manually_drop_value}
use Rattle.keyed_rows.specs.declared.group.Held.{Held}
use Rattle.keyed_rows.specs.declared.group.Held.TheVariants.{One, Lasting, All}

-- the one row, or all rows
abbrev pub rows_of : Held → List (List (List ℕ))
rows_of (One row) = row ∷ []
rows_of (Lasting row) = manually_drop_value row ∷ []
rows_of (All rows) = rows.items
