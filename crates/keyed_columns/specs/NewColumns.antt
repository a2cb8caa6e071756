-- Columns whose names are put one after the other.
use Rattle.std.specs.Prelude.{◌≡◌, ℕ, List, [], ◌∷◌, ◌++◌, filter}
use Rattle.keyed_columns.specs.ColumnNames.{HaveNames, distinct, is_beside, place_under_key}
use Rattle.keyed_columns.specs.Names.{names_in}
use Rattle.keyed_columns.specs.declared.columns.Columns.{Columns}
use Rattle.keyed_columns.specs.declared.columns.NewColumns.{NewColumns}
use Rattle.keyed_columns.specs.declared.key_record.NewNames.{NewNames}

-- a column of this name stands after the others
pub record PutsColumn (old new : Columns) (name : List ℕ) : Type 0 where
  pub key : new.key ≡ old.key
  pub rest : new.rest ≡ old.rest ++ filter (is_beside old.key) (name ∷ [])
  pub order : new.order.items ≡ old.order.items ++ (place_under_key old.key name ∷ [])

-- these are the columns of names that were put, each once
pub record HasSeen (key names : List (List ℕ)) (new : NewColumns) : Type 0 where
  pub seen : names_in new.seen ≡ distinct names
  pub columns : HaveNames key (distinct names) new.columns

-- whatever names were put, these are put after them
abbrev pub SeesNames : NewColumns → NewColumns → List (List ℕ) → Type 0
SeesNames old new more = (key names : List (List ℕ)) → HasSeen key names old → HasSeen key (names ++ more) new

-- names that were put are all those that are known, and no two are the same
pub record HasOnce (new : NewNames) : Type 0 where
  pub seen : names_in new.seen ≡ new.names
  pub once : distinct new.names ≡ new.names
