-- The names of the columns of a join and of a look-up.
use Rattle.std.specs.Prelude.{◌≡◌, ℕ, false, true, List, [], ◌∷◌, ◌++◌, Option, None, Some, ⊤, codes, map, nat_eq, if◌then◌else◌}
use Rattle.std.specs.Cmp.Lexicographic.{pointwise}
use Rattle.keyed_faults.specs.declared.fault.Reason.{Reason}
use Rattle.keyed_faults.specs.declared.fault.Reason.TheVariants as reason
use Rattle.keyed_requests.specs.declared.lookups.LookupKind.{LookupKind}
use Rattle.keyed_requests.specs.declared.lookups.LookupKind.TheVariants as found
use Rattle.keyed_requests.specs.declared.request.JoinNames.{JoinNames}
use Rattle.keyed_requests.specs.declared.request.Kind.{Kind}
use Rattle.keyed_requests.specs.declared.request.Kind.TheVariants as kind
use Rattle.keyed_columns.specs.ColumnNames.{has_name}
use Rattle.keyed_columns.specs.Names.{repeats}
use Rattle.keyed_columns.specs.Placed.{first_cells, placed}
use Rattle.keyed_columns.specs.declared.columns.JoinColumns.{JoinColumns}

-- a name of one table, with a word before it where the other table has that name too
abbrev pub told_apart : List ℕ → List (List ℕ) → List ℕ → List ℕ
told_apart word others name = if has_name others name then word ++ name else name

-- the name of the first column, which an outer join has
abbrev pub side_column : Kind → JoinNames → Option (List ℕ)
side_column kind.Outer names = Some names.side.now
side_column _ names = None

module _ (names : JoinNames) (columns : JoinColumns) where
  -- the names of the left table beside its key: the right table gives its columns beside the key
  abbrev pub left_names : List (List ℕ)
  left_names = map (told_apart names.left.now columns.right.rest) columns.left.rest

  -- those of the right table beside its key: the left one gives all of its columns
  abbrev pub right_names : List (List ℕ)
  right_names = map (told_apart names.right.now (columns.left.key ++ columns.left.rest)) columns.right.rest

-- the names of the columns of a join: that of the first one, if there is one, those of the key, and those of each table; of a join that has
-- the cells of the left table alone there is none
abbrev pub joined_names : Kind → JoinNames → JoinColumns → List (List ℕ)
joined_names kind.Semi names columns = []
joined_names kind.Anti names columns = []
joined_names how names columns =
    ((first_cells (side_column how names) ++ columns.left.key) ++ left_names names columns) ++ right_names names columns

-- those of a look-up: the left ones in the order of their table, and the right ones after them; of rows that are not found the left ones
abbrev pub found_names : LookupKind → JoinNames → JoinColumns → List (List ℕ)
found_names found.Anti names columns = placed columns.left.order.items columns.left.key columns.left.rest
found_names how names columns =
    placed columns.left.order.items columns.left.key (left_names names columns) ++ right_names names columns

-- a name is the first among others that one before it is the same as
pub record IsTwice (names : List (List ℕ)) (name : List ℕ) : Type 0 where
  pub before : List (List ℕ)
  pub behind : List (List ℕ)
  pub among : names ≡ before ++ name ∷ behind
  pub once : repeats [] before ≡ false
  pub again : has_name before name ≡ true

-- the option that gives a column another name
abbrev pub option_for : Option (List ℕ) → List ℕ → List ℕ
option_for None name = codes "--prefix"
option_for (Some side) name = if pointwise nat_eq side name then codes "--side" else codes "--prefix"

-- why there are no such names: two of them are the same, and this option tells them apart
abbrev pub ExplainsNames : Option (List ℕ) → List (List ℕ) → Reason → Type 0
ExplainsNames side names (reason.JoinedTwice name option) = IsTwice names name.items × (option.now ≡ option_for side name.items)
ExplainsNames side names reason.NoMemory = ⊤
ExplainsNames side names _ = ⊥
