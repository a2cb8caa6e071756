-- Which columns are shown of rows that changed, each with its flag.
use Rattle.std.specs.Prelude.{ℕ, Bool, true, false, not, ◌||◌, List, Option, Some, None, fold, length, map, replicate, zip}
use Rattle.keyed_requests.specs.declared.request.ColumnsShown.{ColumnsShown}
use Rattle.keyed_requests.specs.declared.request.ColumnsShown.TheVariants.{All, Changed}
use Rattle.keyed_numbers.specs.Decimals.{same_cell}
use Rattle.keyed_numbers.specs.declared.alike.Alike.{Alike}

-- the columns that were shown, and those in which two versions of a row differ, where the cells of each column are compared so
abbrev pub either_changed : List Alike → List Bool → List (List ℕ) → List (List ℕ) → List Bool
either_changed alikes shown old new = map (λ column. column.0 || not (same_cell column.1.0 column.1.1.0 column.1.1.1))
    (zip shown (zip alikes (zip old new)))

-- those that are shown once a row is, of those before it: of a row that came or went each one
abbrev pub columns_changed : List Alike → List Bool → Option (List (List ℕ)) → Option (List (List ℕ)) → List Bool
columns_changed alikes shown (Some old) (Some new) = either_changed alikes shown old new
columns_changed alikes shown (Some old) None = replicate (length shown) true
columns_changed alikes shown None next = replicate (length shown) true

-- what stands in each version of a row
abbrev pub Versions : Type 0
Versions = Option (List (List ℕ)) × Option (List (List ℕ))

-- those that are shown of rows: each of so many where all are wanted, else those in which a row changed, or each where one came or went
abbrev pub columns_shown : ColumnsShown → List Alike → ℕ → List Versions → List Bool
columns_shown All alikes count rows = replicate count true
columns_shown Changed alikes count rows
    = fold (λ shown row. columns_changed alikes shown row.0 row.1) (replicate count false) rows
