-- Names that stand among others more than once.
use Rattle.std.specs.Prelude.{◌≡◌, ◌&&◌, ◌||◌, ℕ, Bool, false, List, [], ◌∷◌, nat_eq}
use Rattle.std.specs.Cmp.Lexicographic.{pointwise}
use Rattle.keyed_columns.specs.ColumnNames.{has_name}

-- whether a name stands among others more than once
unfoldable pub stands_twice : List (List ℕ) → List ℕ → Bool
stands_twice [] name = false
stands_twice (other ∷ names) name = (pointwise nat_eq name other && has_name names name) || stands_twice names name

-- these are the names that stand among others more than once
abbrev pub AreRepeated : List (List ℕ) → List (List ℕ) → Type 0
AreRepeated names repeated = (name : List ℕ) → has_name repeated name ≡ stands_twice names name
