-- What follows of the columns of every table.
use Rattle.std.specs.Prelude.{◌≡◌, ◌&&◌, ℕ, false, not, List, [], ◌∷◌, length, map, nat_eq}
use Rattle.std.specs.Cmp.Lexicographic.{pointwise}
use Rattle.std.specs.List.{IsDistinct}
use Rattle.keyed_columns.specs.ColumnNames.{AreColumns, WriteNames, all_names, column_names, has_name}
use Rattle.keyed_columns.specs.Names.{repeats}
use Rattle.keyed_columns.specs.CellsUnder.{cell_under, row_under}
use Rattle.keyed_columns.specs.Placed.{placed}
use Rattle.keyed_columns.specs.declared.columns.Columns.{Columns}
use Rattle.keyed_columns.specs.declared.content.Content.{Content}
use Rattle.keyed_columns.specs.declared.content.Content.TheVariants.{Rows}

-- no name is lost and none comes: the names beside a key are those of the headers that are none of the key
abbrev pub KeepsNamesLaw : Type 0
KeepsNamesLaw = (key : List (List ℕ)) (headers : List (List (List ℕ))) (columns : Columns) → AreColumns key headers columns
    → (name : List ℕ) → has_name columns.rest name ≡ (has_name (all_names headers) name && not (has_name columns.key name))

-- no name stands twice
abbrev pub NamesOnceLaw : Type 0
NamesOnceLaw = (key : List (List ℕ)) (headers : List (List (List ℕ))) (columns : Columns) → AreColumns key headers columns
    → IsDistinct (pointwise nat_eq) columns.rest
    × IsDistinct (pointwise nat_eq) (placed columns.order.items columns.key columns.rest)

-- the header that is written has each name of the headers once, in their order, and a row the cells of a record under those names
abbrev pub PlacesCellsLaw : Type 0
PlacesCellsLaw = (key : List (List ℕ)) (headers : List (List (List ℕ))) (columns : Columns) → AreColumns key headers columns
    → (placed columns.order.items columns.key columns.rest ≡ column_names headers)
    × ((kind : Content) (names fields : List (List ℕ))
    → placed columns.order.items (row_under kind names columns fields).0 (row_under kind names columns fields).1
    ≡ map (cell_under kind names fields) (column_names headers))

-- what is picked of a table and written is the table: its header, in which no name stands twice, and each record
abbrev pub PutsBackLaw : Type 0
PutsBackLaw = (key names : List (List ℕ)) (columns : Columns) → AreColumns key (names ∷ []) columns → repeats [] names ≡ false
    → (placed columns.order.items columns.key columns.rest ≡ names)
    × ((fields : List (List ℕ)) → length fields ≡ length names
    → placed columns.order.items (row_under Rows names columns fields).0 (row_under Rows names columns fields).1 ≡ fields)

-- of columns of which some are written, those are written, if no name stands there twice
abbrev pub WritesNamesLaw : Type 0
WritesNamesLaw = (key written : List (List ℕ)) (headers : List (List (List ℕ))) (columns : Columns) → WriteNames key written headers columns
    → repeats [] written ≡ false
    → (placed columns.order.items columns.key columns.rest ≡ written)
    × ((kind : Content) (names fields : List (List ℕ))
    → placed columns.order.items (row_under kind names columns fields).0 (row_under kind names columns fields).1
    ≡ map (cell_under kind names fields) written)
