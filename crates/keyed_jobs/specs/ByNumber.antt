-- Rows whose cells are not compared as they stand, but as their columns are: which of them changed, and which in conflict are settled.
use Rattle.std.specs.Prelude.{ℕ, ◌||◌, ◌&&◌, ◌==◌, Bool, false, not, List, [], ◌∷◌, Option, Some, None, filter, length, nat_eq, option_map, zip, if◌then◌else◌}
use Rattle.std.specs.List.{list_all}
use Rattle.std.specs.Cmp.Lexicographic.{pointwise}
use Rattle.std.specs.Option.{option_and_then, option_eq}
use Rattle.eob_both.specs.Places.{item_left, item_right}
use Rattle.either_or_both.specs.Prelude.{left_place, right_place}
use Rattle.eob_both.specs.declared.either_or_both.EitherOrBoth.{EitherOrBoth}
use Rattle.eob_both.specs.declared.either_or_both.EitherOrBoth.TheVariants.{Left, Both, Right}
use Rattle.eob_joins.specs.Cells.{same_length}
use Rattle.eob_joins.specs.Tables.{kept}
use Rattle.keyed_requests.specs.declared.merging.Unit.{Unit}
use Rattle.keyed_requests.specs.declared.merging.Unit.TheVariants as unit
use Rattle.keyed_numbers.specs.Decimals.{same_cell}
use Rattle.keyed_numbers.specs.declared.alike.Alike.{Alike}
use Rattle.keyed_tables.specs.RowsByCell.{one_row}
use Rattle.eob_joins.specs.declared.marked.Marked.{Marked}
use Rattle.eob_joins.specs.declared.marked.Marked.TheVariants.{Settled, Unresolved}

-- what stands of a key in conflict: its rows where it is settled, if it has any, and else its versions
abbrev pub mark_of : EitherOrBoth (List (List (List ℕ))) (EitherOrBoth (List (List (List ℕ))) (List (List (List ℕ))))
    → Option (Option (List (List (List ℕ)))) → Option (Marked (List (List (List ℕ))))
mark_of versions None = Some (Unresolved versions)
mark_of versions (Some rows) = option_map Settled rows

-- the cell of three versions, if it is settled, as its column is compared: theirs where ours is the base to the byte, ours where theirs is
-- the same as ours or as the base, and theirs where ours is the same as the base
abbrev pub settled_cell : Alike → List ℕ → List ℕ → List ℕ → Option (List ℕ)
settled_cell alike base ours theirs =
    if pointwise nat_eq base ours then Some theirs
    else if same_cell alike ours theirs || same_cell alike base theirs then Some ours
    else if same_cell alike base ours then Some theirs else None

-- the cells of three versions of a row, each with how its column is compared, if each of them is settled
abbrev pub settled_cells : List (Alike × (List ℕ × (List ℕ × List ℕ))) → Option (List (List ℕ))
settled_cells [] = Some []
settled_cells (z ∷ zs) = option_and_then (λ cell. option_map (λ row. cell ∷ row) (settled_cells zs)) (settled_cell z.0 z.1.0 z.1.1.0 z.1.1.1)

-- how the cells of each column are compared
module _ (alikes : List Alike) where
  -- two rows are the same: they have as many cells as there are columns, and each is the same as the other one in its column
  abbrev pub same_row : List (List ℕ) → List (List ℕ) → Bool
  same_row row other = (length row == length other) && ((length alikes == length row)
      && list_all (λ column. same_cell column.0 column.1.0 column.1.1) (zip alikes (zip row other)))

  -- two groups have the same rows, one after another
  abbrev pub same_rows : List (List (List ℕ)) → List (List (List ℕ)) → Bool
  same_rows rows others = pointwise same_row rows others

  -- two places have the same rows, or neither has any
  abbrev pub same_place : Option (List (List (List ℕ))) → Option (List (List (List ℕ))) → Bool
  same_place rows others = option_eq same_rows rows others

  -- whether the rows of a change are the same before and after
  abbrev pub is_same_change : EitherOrBoth (List (List (List ℕ))) (List (List (List ℕ))) → Bool
  is_same_change (Left old) = false
  is_same_change (Both old new) = same_rows old new
  is_same_change (Right new) = false

  -- the changes whose rows are not the same, in their order
  abbrev pub changed_by_number : {K : Type 0} → List (K × EitherOrBoth (List (List (List ℕ))) (List (List (List ℕ))))
      → List (K × EitherOrBoth (List (List (List ℕ))) (List (List (List ℕ))))
  changed_by_number changes = filter (λ change. not (is_same_change change.1)) changes

  -- the row of three that are there and have as many cells as there are columns, if each cell is settled
  abbrev pub settled_row : Option (List (List ℕ)) → Option (List (List ℕ)) → Option (List (List ℕ)) → Option (List (List ℕ))
  settled_row (Some b) (Some p) (Some q) = if same_length b p q && (length alikes == length b) then settled_cells (zip alikes (zip b (zip p q))) else None
  settled_row (Some b) (Some p) None = None
  settled_row (Some b) None q = None
  settled_row None p q = None

  -- by cell: the rows of three versions that have one row each
  abbrev pub settled_by : Unit → Option (List (List (List ℕ))) → Option (List (List (List ℕ))) → Option (List (List (List ℕ)))
      → Option (Option (List (List (List ℕ))))
  settled_by unit.Row base ours theirs = None
  settled_by unit.Cell base ours theirs = option_map (λ row. Some (row ∷ []))
      (settled_row (option_and_then one_row base) (option_and_then one_row ours) (option_and_then one_row theirs))

  -- what becomes of a key, if it is settled: what ours has, where theirs has the same rows as ours or as the base, and what theirs has,
  -- where ours has the same as the base; else a row of the cells of all three, where they are merged by cell
  abbrev pub settled : Unit → Option (List (List (List ℕ))) → Option (List (List (List ℕ))) → Option (List (List (List ℕ)))
      → Option (Option (List (List (List ℕ))))
  settled by base ours theirs =
      if same_place ours theirs || same_place base theirs then Some ours
      else if same_place base ours then Some theirs else settled_by by base ours theirs

  -- what stands of a key that is in conflict or not
  abbrev pub settled_mark : Unit → Marked (List (List (List ℕ))) → Option (Marked (List (List (List ℕ))))
  settled_mark by (Settled rows) = Some (Settled rows)
  settled_mark by (Unresolved versions) = mark_of versions
      (settled by (left_place versions) (item_left (right_place versions)) (item_right (right_place versions)))

  -- the merged rows in their order, each as what stands of it
  abbrev pub settled_by_number : {K : Type 0} → Unit → List (K × Marked (List (List (List ℕ)))) → List (K × Marked (List (List (List ℕ))))
  settled_by_number by rows = kept (settled_mark by) rows
