-- The columns of tables under a key: the names of their headers, each once, and where the cell of each column stands.
use Rattle.std.specs.Prelude.{◌≡◌, ◌==◌, ℕ, Bool, not, List, [], ◌∷◌, ◌++◌, Option, None, Some, is_none, filter, length, map, nat_eq, replicate, take, if◌then◌else◌}
use Rattle.std.specs.Cmp.Lexicographic.{pointwise}
use Rattle.std.specs.List.{flat_map, list_any, range_with_len}
use Rattle.keyed_columns.specs.Names.{place_in}
use Rattle.keyed_columns.specs.declared.columns.Columns.{Columns}
use Rattle.keyed_columns.specs.declared.columns.Place.{Place}
use Rattle.keyed_columns.specs.declared.columns.Place.TheVariants as at

-- names, of those that are the same the first alone
unfoldable pub distinct : List (List ℕ) → List (List ℕ)
distinct [] = []
distinct (name ∷ names) = name ∷ filter (λ other. not (pointwise nat_eq other name)) (distinct names)

-- the names of headers, one header after the other
abbrev pub all_names : List (List (List ℕ)) → List (List ℕ)
all_names headers = flat_map (λ header. header) headers

-- the names of the columns of tables: those of their headers in order, each once
abbrev pub column_names : List (List (List ℕ)) → List (List ℕ)
column_names headers = distinct (all_names headers)

-- whether a name is none of a key
abbrev pub is_beside : List (List ℕ) → List ℕ → Bool
is_beside key name = is_none (place_in key name)

-- where a cell stands: in the key, at the place of the name there, or else among the others
abbrev pub place_by : Option ℕ → Place
place_by None = at.Rest
place_by (Some place) = at.Key place

abbrev pub place_under_key : List (List ℕ) → List ℕ → Place
place_under_key key name = place_by (place_in key name)

-- columns of these names in this order, under a key: each one is of the key or one of the others, which stand in the same order
pub record HaveNames (under names : List (List ℕ)) (columns : Columns) : Type 0 where
  pub key : columns.key ≡ under
  pub rest : columns.rest ≡ filter (is_beside under) names
  pub order : columns.order.items ≡ map (place_under_key under) names

-- the columns of tables with these headers, under a key
abbrev pub AreColumns : List (List ℕ) → List (List (List ℕ)) → Columns → Type 0
AreColumns key headers columns = HaveNames key (column_names headers) columns

-- whether a name is one of others
abbrev pub has_name : List (List ℕ) → List ℕ → Bool
has_name names name = list_any (pointwise nat_eq name) names

-- one thing where a header is empty, as of a file with no row, and another where it is not
abbrev pub if_empty : {A : Type 0} → List (List ℕ) → A → A → A
if_empty header one other = if length header == 0 then one else other

-- a header, or another one where it is empty
abbrev pub or_header : List (List ℕ) → List (List ℕ) → List (List ℕ)
or_header header other = if_empty header other header

-- the places of so many columns of a key, and of so many others after them
abbrev pub key_first : ℕ → ℕ → List Place
key_first key rest = map at.Key (range_with_len 0 key) ++ replicate rest at.Rest

-- columns that are written in the order of the first of these names; the others are read, and stand after
pub record WriteFirst (under : List (List ℕ)) (count : ℕ) (names : List (List ℕ)) (columns : Columns) : Type 0 where
  pub key : columns.key ≡ under
  pub rest : columns.rest ≡ filter (is_beside under) names
  pub order : columns.order.items ≡ take count (map (place_under_key under) names)

-- columns of which these names are written, of tables with these headers
abbrev pub WriteNames : List (List ℕ) → List (List ℕ) → List (List (List ℕ)) → Columns → Type 0
WriteNames key written headers columns = WriteFirst key (length written) (column_names (written ∷ headers)) columns
