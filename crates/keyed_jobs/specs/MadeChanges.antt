-- Changes as they are made to a table: in a direction, and where they are of some columns alone with its cells in the others.
use Rattle.std.specs.Prelude.{ℕ, Bool, List, Option, None, Some, map, not, if◌then◌else◌}
use Rattle.keyed_columns.specs.ChangedColumns.{name_each}
use Rattle.keyed_columns.specs.ColumnNames.{has_name}
use Rattle.keyed_columns.specs.declared.columns.Columns.{Columns}
use Rattle.keyed_requests.specs.declared.request.Direction.{Direction}
use Rattle.keyed_tables.specs.Completed.{completed}
use Rattle.keyed_jobs.specs.Answers.{TableChanges, TableRows}
use Rattle.keyed_jobs.specs.Turned.{changes_in}

-- whether the header of changes does not name a column
abbrev pub is_missing : List (List ℕ) → List ℕ → Bool
is_missing changes name = not (has_name changes name)

-- which columns beside the key the header of changes does not name, unless it names each column of the table that they are made to
abbrev pub missing_by : List (List ℕ) → List (List ℕ) → List (List ℕ) → Option (List Bool)
missing_by old changes rest = if name_each old changes then None else Some (map (is_missing changes) rest)

-- changes with the cells of a table where columns are missing
abbrev pub made_with : Option (List Bool) → TableRows → TableChanges → TableChanges
made_with None old changes = changes
made_with (Some missing) old changes = completed missing old changes

-- changes under columns as they are made to a table in a direction, by its header and theirs
abbrev pub made_in : List (List ℕ) → List (List ℕ) → Columns → Direction → TableRows → TableChanges → TableChanges
made_in old_header changes_header columns direction old changes =
    made_with (missing_by old_header changes_header columns.rest) old (changes_in direction changes)
