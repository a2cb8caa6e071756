-- Tables laid one over the other.
use Rattle.std.specs.Prelude.{◌≡◌, ℕ, List, [], ◌∷◌, map, option_map, zip}
use Rattle.std.specs.declared.cmp.Ordering.{Ordering}
use Rattle.eob_both.specs.declared.either_or_both.EitherOrBoth.{EitherOrBoth}
use Rattle.eob_both.specs.declared.either_or_both.EitherOrBoth.TheVariants.{Left, Both, Right}
use Rattle.eob_both.specs.Places.{from_places}
use Rattle.eob_lists.specs.Join.{value_under}

-- rs has under each key what f makes of what p and q have there, and under no other key anything
abbrev pub IsLaidBy : {K A B W : Type 0} → (K → K → Ordering) → (EitherOrBoth A B → W) → List (K × A) → List (K × B) → List (K × W) → Type 0
IsLaidBy {K} cmp f p q rs = (k : K) → value_under cmp rs k ≡ option_map f (from_places (value_under cmp p k) (value_under cmp q k))

-- the upper cell, and the lower one where that is empty
abbrev pub upper_cell : List ℕ → List ℕ → List ℕ
upper_cell below [] = below
upper_cell below (b ∷ bs) = b ∷ bs

-- the same of a pair of cells
abbrev pub cell_over : List ℕ × List ℕ → List ℕ
cell_over cells = upper_cell cells.0 cells.1

-- each cell of a row, and that of the row below where it is empty
abbrev pub filled_cells : List (List ℕ) → List (List ℕ) → List (List ℕ)
filled_cells below above = map cell_over (zip below above)

-- the rows of the upper group, or the cells of both where each group has one row
abbrev pub filled_rows : List (List (List ℕ)) → List (List (List ℕ)) → List (List (List ℕ))
filled_rows [] above = above
filled_rows (row ∷ next ∷ below) above = above
filled_rows (row ∷ []) [] = []
filled_rows (row ∷ []) (over ∷ next ∷ above) = over ∷ next ∷ above
filled_rows (row ∷ []) (over ∷ []) = filled_cells row over ∷ []

-- the rows of the one table that has a key, and those of both by cell
abbrev pub filled : EitherOrBoth (List (List (List ℕ))) (List (List (List ℕ))) → List (List (List ℕ))
filled (Left below) = below
filled (Both below above) = filled_rows below above
filled (Right above) = above
