-- The columns of the table that changes make of another, of two versions merged, and of changes as their header marks them.
use Rattle.std.specs.Prelude.{◌==◌, ◌||◌, ◌&&◌, ℕ, Bool, false, not, List, [], ◌∷◌, ◌++◌, filter, map, nat_eq, if◌then◌else◌}
use Rattle.std.specs.Cmp.Lexicographic.{pointwise}
use Rattle.std.specs.List.{list_all, zip}
use Rattle.keyed_columns.specs.ColumnNames.{WriteNames, column_names, has_name, or_header}
use Rattle.keyed_columns.specs.Placed.{names_placed}
use Rattle.keyed_columns.specs.declared.columns.Columns.{Columns}
use Rattle.keyed_columns.specs.declared.fate.Fate.{Fate}
use Rattle.keyed_columns.specs.declared.fate.Fate.TheVariants as fate

-- whether a name begins with a mark: `-`, `+` or `=`
abbrev pub begins_marked : List ℕ → Bool
begins_marked [] = false
begins_marked (byte ∷ name) = (byte == 45) || (byte == 43) || (byte == 61)

-- the name of a column with the mark of its fate
abbrev pub marked_name : Fate → List ℕ → List ℕ
marked_name fate.Goes name = 45 ∷ name
marked_name fate.Comes name = 43 ∷ name
marked_name fate.Stays name = if begins_marked name then 61 ∷ name else name

-- what becomes of a column between two headers
abbrev pub fate_between : List (List ℕ) → List (List ℕ) → List ℕ → Fate
fate_between old new name = if has_name new name then (if has_name old name then fate.Stays else fate.Comes) else fate.Goes

abbrev pub marked_between : List (List ℕ) → List (List ℕ) → List ℕ → List ℕ
marked_between old new name = marked_name (fate_between old new name) name

-- the names of the columns of changes, each with its mark: those of the new header, and then those that it lacks; a header that is empty is
-- that of the other table
abbrev pub marked_names : List (List ℕ) → List (List ℕ) → List (List ℕ)
marked_names old new = map (marked_between (or_header old new) (or_header new old)) (column_names (new ∷ old ∷ []))

-- the names of these columns as they are written, each with its mark
abbrev pub marked_columns : Columns → List (List ℕ) → List (List ℕ) → List (List ℕ)
marked_columns columns old new = map (marked_between (or_header old new) (or_header new old)) (names_placed columns)

-- whether the header of changes names each column of a table; if not, the changes are of those columns alone that it names
abbrev pub name_each : List (List ℕ) → List (List ℕ) → Bool
name_each old changes = list_all (has_name changes) old

-- the names of the table that changes make of another, without those that go: those of the changes where they name each column of the other
-- table, and else those of the other table, and then those that come
abbrev pub changed_names : List (List ℕ) → List (List ℕ) → List (List ℕ) → List (List ℕ)
changed_names old changes gone =
    if name_each old changes then filter (λ name. not (has_name gone name)) changes
    else filter (λ name. not (has_name gone name)) old ++ filter (λ name. not (has_name (old ++ gone) name)) changes

-- the columns of that table
abbrev pub AreChangedColumns : List (List ℕ) → List (List ℕ) → List (List ℕ) → List (List ℕ) → Columns → Type 0
AreChangedColumns key old changes gone columns = WriteNames key (changed_names old changes gone) (changes ∷ old ∷ gone ∷ []) columns

-- whether a column of a version stays in a merge: the other version did not drop it
abbrev pub stays_in : List (List ℕ) → List (List ℕ) → List ℕ → Bool
stays_in base other name = has_name other name || not (has_name base name)

-- whether a column of a version comes after those of the other one: it is new, and not in the other one
abbrev pub comes_in : List (List ℕ) → List (List ℕ) → List ℕ → Bool
comes_in base other name = not (has_name other name) && not (has_name base name)

-- the names of two versions without those that one of them dropped: those of the first, and then those that the next one alone has
abbrev pub merged_names : List (List ℕ) → List (List ℕ) → List (List ℕ) → List (List ℕ)
merged_names base first next = filter (stays_in base next) first ++ filter (comes_in base first) next

-- the names that another header has too
abbrev pub shared : List (List ℕ) → List (List ℕ) → List (List ℕ)
shared names others = filter (has_name others) names

-- whether those that both headers have stand in the same order, as far as both go on
abbrev pub is_same_order : List (List ℕ) → List (List ℕ) → Bool
is_same_order old new = list_all (λ pair. pointwise nat_eq pair.0 pair.1) (zip (shared old new) (shared new old))

-- whether theirs alone changed the columns, or theirs alone their order
abbrev pub is_led_by_theirs : List (List ℕ) → List (List ℕ) → List (List ℕ) → Bool
is_led_by_theirs base ours theirs = pointwise (pointwise nat_eq) ours base || is_same_order base ours && not (is_same_order base theirs)

-- the names of the columns of two versions merged over their base
abbrev pub names_merged : List (List ℕ) → List (List ℕ) → List (List ℕ) → List (List ℕ)
names_merged base ours theirs = if is_led_by_theirs base ours theirs then merged_names base theirs ours else merged_names base ours theirs

-- those columns; a header that is empty is that of the base
abbrev pub AreMergedColumns : List (List ℕ) → List (List ℕ) → List (List ℕ) → List (List ℕ) → Columns → Type 0
AreMergedColumns key base ours theirs columns =
    WriteNames key (names_merged base (or_header ours base) (or_header theirs base)) (base ∷ or_header ours base ∷ or_header theirs base ∷ []) columns
