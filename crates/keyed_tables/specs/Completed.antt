-- Changes of some columns alone, with the cells in the others that a table has there.
use Rattle.std.specs.Prelude.{ℕ, Bool, List, [], ◌∷◌, Option, None, Some, map, zip, if◌then◌else◌}
use Rattle.std.specs.Cmp.Lexicographic.{slice_cmp}
use Rattle.std.specs.Ordering.{nat_cmp}
use Rattle.eob_both.specs.declared.either_or_both.EitherOrBoth.{EitherOrBoth}
use Rattle.eob_both.specs.declared.either_or_both.EitherOrBoth.TheVariants.{Left, Both, Right}
use Rattle.eob_lists.specs.Join.{value_under}

-- the rows that stand under a key, and a change of them
abbrev pub Under : Type 0
Under = List (List (List ℕ))

abbrev pub UnderChange : Type 0
UnderChange = EitherOrBoth Under Under

-- the cell of a change, and where its column is missing that of another row
abbrev pub completed_cell : Bool → List ℕ → List ℕ → List ℕ
completed_cell is_missing cell given = if is_missing then cell else given

module _ (missing : List Bool) where
  -- the same of each column
  abbrev pub completed_cells : List (List ℕ) → List (List ℕ) → List (List ℕ)
  completed_cells row given = map (λ z. completed_cell z.0 z.1.0 z.1.1) (zip missing (zip row given))

  -- the same where one row stands under the key and one is given, and else the rows as they are given
  abbrev pub completed_rows : Under → Under → Under
  completed_rows [] given = given
  completed_rows (row ∷ next ∷ rows) given = given
  completed_rows (row ∷ []) [] = []
  completed_rows (row ∷ []) (one ∷ next ∷ given) = one ∷ next ∷ given
  completed_rows (row ∷ []) (one ∷ []) = completed_cells row one ∷ []

  -- a change of these rows, of which what goes and what comes is completed
  abbrev pub completed_change : Under → UnderChange → UnderChange
  completed_change rows (Left gone) = Left (completed_rows rows gone)
  completed_change rows (Both gone come) = Both (completed_rows rows gone) (completed_rows rows come)
  completed_change rows (Right come) = Right (completed_rows rows come)

  -- the same of what a table has there, if it has anything
  abbrev pub completed_by : Option Under → UnderChange → UnderChange
  completed_by None change = change
  completed_by (Some rows) change = completed_change rows change

  -- the same of a row of a join of the table with changes, if it has a change
  abbrev pub completed_at : EitherOrBoth Under UnderChange → Option UnderChange
  completed_at (Left rows) = None
  completed_at (Both rows change) = Some (completed_change rows change)
  completed_at (Right change) = Some change

  -- each change, completed by the rows that a table has under its key
  abbrev pub completed : List (List (List ℕ) × Under) → List (List (List ℕ) × UnderChange) → List (List (List ℕ) × UnderChange)
  completed old changes = map (λ change. (change.0, completed_by (value_under (slice_cmp (slice_cmp nat_cmp)) old change.0) change.1)) changes
