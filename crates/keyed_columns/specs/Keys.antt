-- The names of the columns that are the key of tables.
use Rattle.std.specs.Prelude.{◌≡◌, ◌||◌, ℕ, Bool, false, true, List, [], ◌∷◌, Option, None, Some, filter, length, map, nat_eq, take, if◌then◌else◌}
use Rattle.std.specs.Borrow.{Bor}
use Rattle.std.specs.Cmp.Lexicographic.{pointwise}
use Rattle.std.specs.List.{list_all}
use Rattle.keyed_requests.specs.declared.request.Picked.{Picked}
use Rattle.keyed_requests.specs.declared.request.Picked.TheVariants as picked
use Rattle.keyed_columns.specs.ChangedColumns.{AreChangedColumns, AreMergedColumns}
use Rattle.keyed_columns.specs.ColumnNames.{AreColumns, all_names, column_names, has_name, if_empty, key_first, or_header}
use Rattle.keyed_columns.specs.KeyText.{AreNamesIn}
use Rattle.keyed_columns.specs.Headers.{numbered_names}
use Rattle.keyed_columns.specs.Names.{is_kept, renamed}
use Rattle.keyed_columns.specs.declared.columns.Columns.{Columns}
use Rattle.keyed_columns.specs.declared.columns.JoinColumns.{JoinColumns}

-- the name of the first column of tables, if they have one
abbrev pub first_name : List (List (List ℕ)) → List (List ℕ)
first_name headers = take 1 (all_names headers)

-- the name of the column that is given by its name; or by its place among the columns, counted from 1, where no column has such a name
abbrev pub name_by : List (List ℕ) → List (List ℕ) → List ℕ → List ℕ
name_by numbers columns name = if has_name columns name then name else renamed numbers columns name

abbrev pub by_place : List (List ℕ) → List ℕ → List ℕ
by_place columns name = name_by (numbered_names (length columns)) columns name

-- the names of columns, by whether each is given one name: then it may be a place, and else it is the one or the other name
abbrev pub AreGivenAs : Bool → List (List ℕ) → List (List ℕ) → List (List ℕ) → List (List ℕ) → List (List ℕ) → Type 0
AreGivenAs true columns given_first given_others first others = (first ≡ map (by_place columns) given_first) × (others ≡ first)
AreGivenAs false columns given_first given_others first others = (first ≡ given_first) × (others ≡ given_others)

-- the names that a text gives of columns of tables with these headers
pub record NameColumns (text : List ℕ) (headers : List (List (List ℕ))) (first others : List (List ℕ)) : Type 0 where
  pub given_first : List (List ℕ)
  pub given_others : List (List ℕ)
  pub given : AreNamesIn text given_first given_others
  pub are : AreGivenAs (pointwise (pointwise nat_eq) given_first given_others) (column_names headers) given_first given_others first others

-- the names of the key in the first table and in the others: those that are given, or else the name of the first column
abbrev pub AreKeyNames : Option (Bor (List ℕ)) → List (List (List ℕ)) → List (List ℕ) → List (List ℕ) → Type 0
AreKeyNames None headers first others = (first ≡ first_name headers) × (others ≡ first_name headers)
AreKeyNames (Some given) headers first others = NameColumns given.now headers first others

-- columns under a key that is set or not: the key is that of the headers of the tables, with the names that it has in all but the first
pub record AreColumnsBy (key : Option (Bor (List ℕ))) (tables headers : List (List (List ℕ))) (columns : Columns) : Type 0 where
  pub first : List (List ℕ)
  pub others : List (List ℕ)
  pub names : AreKeyNames key tables first others
  pub are : AreColumns others headers columns

-- the columns of each of two tables, by the names that the key has in each, which are those of a heading; a file with no row has the columns
-- of the other table
pub record AreJoinColumns (key : Option (Bor (List ℕ))) (left right : List (List ℕ)) (columns : JoinColumns) : Type 0 where
  pub first : List (List ℕ)
  pub others : List (List ℕ)
  pub names : AreKeyNames key (left ∷ right ∷ []) first others
  pub are_left : AreColumns (if_empty left others first) (or_header left right ∷ []) columns.left
  pub are_right : AreColumns (if_empty right first others) (or_header right left ∷ []) columns.right
  pub plain_left : columns.left.spelled ≡ None
  pub plain_right : columns.right.spelled ≡ None

-- the same columns with those alone, beside the key, whose names are among these, or are not
pub record AreAmong (keeps : Bool) (names : List (List ℕ)) (old new : Columns) : Type 0 where
  pub key : new.key ≡ old.key
  pub rest : new.rest ≡ filter (is_kept keeps names) old.rest
  pub order : new.order.items ≡ key_first (length old.key) (length new.rest)
  pub plain : new.spelled ≡ None

-- the columns that are picked: each name that is given is that of a column
pub record ArePicked (text : List ℕ) (keeps : Bool) (old new : Columns) : Type 0 where
  pub first : List (List ℕ)
  pub others : List (List ℕ)
  pub given : AreNamesIn text first others
  pub known : list_all (λ name. has_name old.key name || has_name old.rest name) first ≡ true
  pub among : AreAmong keeps first old new

abbrev pub ArePickedColumns : Picked → Columns → Columns → Type 0
ArePickedColumns picked.All old new = new ≡ old
ArePickedColumns (picked.Only names) old new = ArePicked names.now true old new
ArePickedColumns (picked.AllBut names) old new = ArePicked names.now false old new

-- the columns of the changes from one header to another: those of the new one in its order, and then those that it lacks; the key is that
-- of the old table and the new one
abbrev pub AreChangeColumns : Option (Bor (List ℕ)) → List (List ℕ) → List (List ℕ) → Columns → Type 0
AreChangeColumns key old new columns = AreColumnsBy key (old ∷ new ∷ []) (new ∷ old ∷ []) columns

-- the columns of the table that changes make of another, under the key of both
pub record AreChangedColumnsBy (key : Option (Bor (List ℕ))) (old changes gone : List (List ℕ)) (columns : Columns) : Type 0 where
  pub first : List (List ℕ)
  pub others : List (List ℕ)
  pub names : AreKeyNames key (old ∷ changes ∷ []) first others
  pub are : AreChangedColumns others old changes gone columns

-- the columns of two versions of a table merged over their base, under the key of all three
pub record AreMergedColumnsBy (key : Option (Bor (List ℕ))) (base ours theirs : List (List ℕ)) (columns : Columns) : Type 0 where
  pub first : List (List ℕ)
  pub others : List (List ℕ)
  pub names : AreKeyNames key (base ∷ ours ∷ theirs ∷ []) first others
  pub are : AreMergedColumns others base ours theirs columns
