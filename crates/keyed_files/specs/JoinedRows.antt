-- The rows that a join is written as.
use Rattle.std.specs.Prelude.{ℕ, zero, suc, List, [], ◌∷◌, ◌++◌, Option, Some, None, length, map, option_and_then, option_map, slice_get, unwrap_or}
use Rattle.keyed_columns.specs.declared.columns.JoinColumns.{JoinColumns}
use Rattle.keyed_columns.specs.Placed.{first_cells}
use Rattle.keyed_files.specs.declared.joined_rows.Sides.{Sides}

-- the header of a join: none where there is no name
abbrev pub join_heading : List (List ℕ) → List (List (List ℕ))
join_heading [] = []
join_heading (name ∷ names) = (name ∷ names) ∷ []

-- how many rows a side has: an absent one has one
abbrev pub side_count : Option (List (List (List ℕ))) → ℕ
side_count None = 1
side_count (Some rows) = length rows

-- the row of a side at a place: an empty cell for each name where there is none
abbrev pub side_row : Option (List (List (List ℕ))) → ℕ → List (List ℕ) → List (List ℕ)
side_row side place names = unwrap_or (option_and_then (λ rows. slice_get rows place) side) (map (λ name. []) names)

-- the rows of each side
abbrev pub left_of : Sides → Option (List (List (List ℕ)))
left_of sides = option_map (λ group. group.now) sides.left

abbrev pub right_of : Sides → Option (List (List (List ℕ)))
right_of sides = option_map (λ group. group.now) sides.right

-- a row of each side as one: a first cell if there is one, the key, and the other cells of both
abbrev pub joined_row : JoinColumns → List (List ℕ) → Sides → ℕ → ℕ → List (List ℕ)
joined_row columns key sides left right =
    ((first_cells (option_map (λ cell. cell.now) sides.first) ++ key) ++ side_row (left_of sides) left columns.left.rest)
    ++ side_row (right_of sides) right columns.right.rest

-- what stands at the places before a number, one after the other
unfoldable pub each_before : {A : Type 0} → (ℕ → List A) → ℕ → List A
each_before f zero = []
each_before f (suc n) = each_before f n ++ f n

-- a row of the left side with each row of the right one
abbrev pub rows_beside : JoinColumns → List (List ℕ) → Sides → ℕ → List (List (List ℕ))
rows_beside columns key sides left = each_before (λ right. joined_row columns key sides left right ∷ []) (side_count (right_of sides))

-- each row of the left side with each row of the right one
abbrev pub joined_rows : JoinColumns → List (List ℕ) → Sides → List (List (List ℕ))
joined_rows columns key sides = each_before (rows_beside columns key sides) (side_count (left_of sides))
