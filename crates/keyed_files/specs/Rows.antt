-- The rows that a table and a join are written as, of the cells of keys and of what stands under them.
use Rattle.std.specs.Prelude.{◌==◌, ◌||◌, ◌&&◌, ℕ, List, [], ◌∷◌, ◌++◌, Bool, not, Option, None, is_some, length, map, if◌then◌else◌}
use Rattle.std.specs.List.{flat_map}
use Rattle.keyed_requests.specs.declared.request.Form.{Form}
use Rattle.keyed_requests.specs.AnswerForm.{writes_heading}
use Rattle.keyed_columns.specs.Placed.{first_cells, names_headed, placed}
use Rattle.keyed_columns.specs.declared.columns.Columns.{Columns}
use Rattle.keyed_columns.specs.declared.columns.Place.{Place}
use Rattle.keyed_files.specs.declared.sign.Sign.{Sign}
use Rattle.keyed_files.specs.declared.sign.Sign.TheVariants as sign

-- the cell that a sign is
abbrev pub shown_sign : Sign → List ℕ
shown_sign sign.Minus = 45 ∷ []
shown_sign sign.Plus = 43 ∷ []

-- the name of the column of signs, `change`
abbrev pub change_name : List ℕ
change_name = 99 ∷ 104 ∷ 97 ∷ 110 ∷ 103 ∷ 101 ∷ []

-- the rows under a key, each after a first cell if there is one
abbrev pub rows_under : Option (List ℕ) → List Place → List (List ℕ) → List (List (List ℕ)) → List (List (List ℕ))
rows_under first order key rows = map (λ rest. first_cells first ++ placed order key rest) rows

-- the rows of a table
abbrev pub table_rows : List Place → List (List (List ℕ) × List (List (List ℕ))) → List (List (List ℕ))
table_rows order rows = flat_map (λ group. rows_under None order group.0 group.1) rows

-- these after a first cell if there is one
abbrev pub names_row : Option (List ℕ) → Columns → List (List ℕ)
names_row first columns = first_cells first ++ names_headed columns

-- whether a table has a heading, after a first cell if there is one: not where answers have none, and not where it would have no cell
abbrev pub has_heading : Form → Option (List ℕ) → Columns → Bool
has_heading form first columns = writes_heading form && (is_some first || not (length columns.order.items == 0))

-- the header of a table, if it has one
abbrev pub heading : Form → Option (List ℕ) → Columns → List (List (List ℕ))
heading form first columns =
    if has_heading form first columns
    then names_row first columns ∷ []
    else []
