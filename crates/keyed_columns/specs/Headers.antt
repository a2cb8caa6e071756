-- The header of a table, and where the cells of its columns stand.
use Rattle.std.specs.Prelude.{◌≡◌, ◌+◌, ◌-◌, ◌==◌, ◌||◌, ℕ, List, [], ◌∷◌, Bool, true, false, Option, decimal, drop, length, map, option_map, if◌then◌else◌}
use Rattle.std.specs.List.{range_with_len}
use Rattle.keyed_columns.specs.Names.{place_in, repeats}
use Rattle.keyed_columns.specs.declared.content.Content.{Content}
use Rattle.keyed_columns.specs.declared.content.Content.TheVariants as content

-- how many cells stand before those of the columns
abbrev pub cells_before : Content → ℕ
cells_before content.Rows = 0
cells_before content.Changes = 1

-- whether a byte before the name of a column in the header of changes says what becomes of the column: `-`, `+` or `=`
abbrev pub is_mark : ℕ → Bool
is_mark byte = (byte == 45) || (byte == 43) || (byte == 61)

-- a name without its mark, if it has one
abbrev pub unmarked : List ℕ → List ℕ
unmarked [] = []
unmarked (byte ∷ name) = if is_mark byte then name else byte ∷ name

-- the name in a cell of a header after so many cells: after none, as in a table of rows, a name has no mark
abbrev pub name_in : ℕ → List ℕ → List ℕ
name_in before cell = if before == 0 then cell else unmarked cell

-- the names that a record has after so many cells
abbrev pub names_behind : ℕ → List (List ℕ) → List (List ℕ)
names_behind before fields = map (name_in before) (drop before fields)

-- the names of columns that a record says: its cells, or those of changes after the first one without their marks
abbrev pub names_said : Content → List (List ℕ) → List (List ℕ)
names_said content.Rows fields = fields
names_said content.Changes fields = map unmarked (drop 1 fields)

-- the names of columns are those that a record says, if it says none twice
abbrev pub NamesOf : Content → List (List ℕ) → List (List ℕ) → Type 0
NamesOf kind fields names = repeats [] (names_said kind fields) ≡ false → names ≡ names_said kind fields

-- the names of so many columns that have no header: the decimal texts of 1, 2 and so on
abbrev pub numbered_names : ℕ → List (List ℕ)
numbered_names count = map decimal (range_with_len 1 count)

-- the names of columns where the first record is no header: a number for each of its cells but those that stand before the columns
abbrev pub names_counted : Content → List (List ℕ) → List (List ℕ)
names_counted kind fields = numbered_names (length fields - cells_before kind)

-- the names of columns of a file that has a header or none, and a first record or none
abbrev pub HeaderOf : Bool → Content → Bool → List (List ℕ) → List (List ℕ) → Type 0
HeaderOf has_header kind false fields names = names ≡ []
HeaderOf true kind true fields names = NamesOf kind fields names
HeaderOf false kind true fields names = names ≡ names_counted kind fields

-- the place of the cell of a name: that of the name in the header, after the cells that stand before it
abbrev pub place_under : Content → List (List ℕ) → List ℕ → Option ℕ
place_under kind names name = option_map (λ place. place + cells_before kind) (place_in names name)
