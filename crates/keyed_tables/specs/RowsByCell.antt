-- A merge of three versions of a table in which a key that has one row in each is merged cell by cell.
use Rattle.std.specs.Prelude.{◌≡◌, ℕ, ◌&&◌, ◌==◌, Bool, true, false, not, List, [], ◌∷◌, length, Option, Some, None, MatchOption, nat_eq, if◌then◌else◌}
use Rattle.std.specs.Cmp.Lexicographic.{pointwise}
use Rattle.eob_joins.specs.Cells.{AreMergedCells, cells_clash, same_length}

-- whether two cells are equal
abbrev pub cell_eq : List ℕ → List ℕ → Bool
cell_eq cell other = pointwise nat_eq cell other

-- a row with no others after it
abbrev pub only_row : {A : Type 0} → A → List A → Option A
only_row row rest = if length rest == 0 then Some row else None

-- the row of a group of one
abbrev pub one_row : {A : Type 0} → List A → Option A
one_row [] = None
one_row (row ∷ rest) = only_row row rest

-- whether three rows are there, have one length, and no cell of them is in conflict
abbrev pub can_merge : Option (List (List ℕ)) → Option (List (List ℕ)) → Option (List (List ℕ)) → Bool
can_merge (Some b) (Some p) (Some q) = same_length b p q && not (cells_clash cell_eq b p q)
can_merge (Some b) (Some p) None = false
can_merge (Some b) None q = false
can_merge None p q = false

-- w has the cells of three rows, merged
abbrev pub MergesRows : Option (List (List ℕ)) → Option (List (List ℕ)) → Option (List (List ℕ)) → List (List ℕ) → Type 0
MergesRows (Some b) (Some p) (Some q) w = AreMergedCells cell_eq b p q w
MergesRows (Some b) (Some p) None w = ⊥
MergesRows (Some b) None q w = ⊥
MergesRows None p q w = ⊥

-- the merged row of three, where they can be merged
abbrev pub IsMergedRow : Option (List (List ℕ)) → Option (List (List ℕ)) → Option (List (List ℕ)) → Option (List (List ℕ)) → Type 0
IsMergedRow b p q None = can_merge b p q ≡ false
IsMergedRow b p q (Some w) = (can_merge b p q ≡ true) × MergesRows b p q w

-- the rule settles three groups of one row each that can be merged, with a group of the merged row
abbrev pub can_by_row : Option (List (List (List ℕ))) → Option (List (List (List ℕ))) → Option (List (List (List ℕ))) → Bool
can_by_row (Some b) (Some p) (Some q) = can_merge (one_row b) (one_row p) (one_row q)
can_by_row (Some b) (Some p) None = false
can_by_row (Some b) None q = false
can_by_row None p q = false

abbrev pub GivesRow : Option (List (List (List ℕ))) → Option (List (List (List ℕ))) → Option (List (List (List ℕ)))
    → List (List (List ℕ)) → Type 0
GivesRow (Some b) (Some p) (Some q) group = MatchOption (one_row group) ⊥ (MergesRows (one_row b) (one_row p) (one_row q))
GivesRow (Some b) (Some p) None group = ⊥
GivesRow (Some b) None q group = ⊥
GivesRow None p q group = ⊥

-- the merged row of three versions, where the rule settles them
abbrev pub IsSettledRow : Option (List (List (List ℕ))) → Option (List (List (List ℕ))) → Option (List (List (List ℕ)))
    → Option (List (List ℕ)) → Type 0
IsSettledRow b p q None = can_by_row b p q ≡ false
IsSettledRow b p q (Some w) = (can_by_row b p q ≡ true) × GivesRow b p q (w ∷ [])

-- theirs of a cell where ours is the base, and ours elsewhere
abbrev pub cell_of : List ℕ × (List ℕ × List ℕ) → List ℕ
cell_of z = if cell_eq z.0 z.1.0 then z.1.1 else z.1.0
