-- Changes of which a report shows rows.
use Rattle.std.specs.Prelude.{ℕ, List, [], ◌∷◌, codes}
use Rattle.eob_both.specs.declared.either_or_both.EitherOrBoth.{EitherOrBoth}
use Rattle.eob_both.specs.declared.either_or_both.EitherOrBoth.TheVariants.{Left, Both, Right}

-- a row of one cell
abbrev pub row : List ℕ → List (List ℕ)
row cell = cell ∷ []

-- keys with one row each
abbrev pub changed_rows : List (List (List ℕ) × EitherOrBoth (List (List (List ℕ))) (List (List (List ℕ))))
changed_rows = (codes "1" ∷ [], Both (row (codes "x") ∷ []) (row (codes "z") ∷ []))
    ∷ (codes "2" ∷ [], Left (row (codes "y") ∷ [])) ∷ (codes "3" ∷ [], Right (row (codes "w") ∷ [])) ∷ []

-- the rows of a key before, and after
abbrev pub rows_before : List (List (List ℕ))
rows_before = row (codes "x") ∷ row (codes "x") ∷ row (codes "y") ∷ []

abbrev pub rows_after : List (List (List ℕ))
rows_after = row (codes "x") ∷ row (codes "y") ∷ row (codes "z") ∷ []

-- keys that stand more than once
abbrev pub changed_groups : List (List (List ℕ) × EitherOrBoth (List (List (List ℕ))) (List (List (List ℕ))))
changed_groups = (codes "1" ∷ [], Both rows_before rows_after)
    ∷ (codes "2" ∷ [], Both (row (codes "p") ∷ row (codes "q") ∷ []) (row (codes "q") ∷ row (codes "r") ∷ row (codes "q") ∷ []))
    ∷ (codes "3" ∷ [], Both (row (codes "s") ∷ row (codes "t") ∷ []) (row (codes "t") ∷ row (codes "s") ∷ []))
    ∷ (codes "4" ∷ [], Left (row (codes "v") ∷ row (codes "v") ∷ [])) ∷ []
