-- Names of columns among others.
use Rattle.std.specs.Prelude.{◌||◌, ◌++◌, ℕ, Bool, false, List, [], ◌∷◌, Option, is_none, map, nat_eq, not, option_and_then, slice_get, unwrap_or, if◌then◌else◌}
use Rattle.std.specs.Cmp.Lexicographic.{pointwise}
use Rattle.std.specs.List.{list_any, position}
use Rattle.keyed_columns.specs.declared.names.Names.{Names}

-- where a name stands among others first
abbrev pub place_in : List (List ℕ) → List ℕ → Option ℕ
place_in names name = position (pointwise nat_eq name) names

-- the name in the other tables of a column that has this one in the first: the same, unless it is one of a key with two names
abbrev pub renamed : List (List ℕ) → List (List ℕ) → List ℕ → List ℕ
renamed first others name = unwrap_or (option_and_then (λ place. slice_get others place) (place_in first name)) name

-- a name is not among others
abbrev pub has_lone : List (List ℕ) → List (List ℕ) → Bool
has_lone names others = list_any (λ name. is_none (place_in others name)) names

-- two headers to compare: one that is empty says nothing of the names of the other
abbrev pub compared : {A : Type 0} → List A → List A → List A × List A
compared [] new = ([], [])
compared (name ∷ old) [] = ([], [])
compared (name ∷ old) (next ∷ new) = (name ∷ old, next ∷ new)

-- names that are found at once, as lists of their bytes
abbrev pub names_in : Names → List (List ℕ)
names_in names = map (λ name. name.items) names.names.keys

-- whether a name is kept: where those among others are, or those that are not
abbrev pub is_kept : Bool → List (List ℕ) → List ℕ → Bool
is_kept keeps others name = if keeps then list_any (pointwise nat_eq name) others else not (list_any (pointwise nat_eq name) others)

-- whether one of more names stands before, among names or among those
unfoldable pub repeats : List (List ℕ) → List (List ℕ) → Bool
repeats before [] = false
repeats before (name ∷ names) = list_any (pointwise nat_eq name) before || repeats (before ++ (name ∷ [])) names
