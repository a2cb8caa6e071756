-- Rows in conflict that are merged cell by cell, told so that their versions differ in the cells in conflict alone.
use Rattle.std.specs.Prelude.{ℕ, ◌&&◌, ◌==◌, List, [], ◌∷◌, Option, Some, None, length, map, zip, if◌then◌else◌}
use Rattle.std.specs.Option.{option_and_then}
use Rattle.eob_both.specs.Places.{item_left, item_right, left_place, right_place}
use Rattle.eob_both.specs.declared.either_or_both.EitherOrBoth.{EitherOrBoth}
use Rattle.eob_both.specs.declared.either_or_both.EitherOrBoth.TheVariants.{Both}
use Rattle.eob_joins.specs.Cells.{same_length}
use Rattle.keyed_requests.specs.declared.merging.Unit.{Unit}
use Rattle.keyed_requests.specs.declared.merging.Unit.TheVariants as unit
use Rattle.keyed_numbers.specs.declared.alike.Alike.{Alike}
use Rattle.keyed_tables.specs.RowsByCell.{one_row}
use Rattle.keyed_jobs.specs.ByNumber.{settled_cell}
use Rattle.keyed_jobs.specs.declared.conflict_cells.Version.{Version}
use Rattle.keyed_jobs.specs.declared.conflict_cells.Version.TheVariants as version

-- the three versions of a key: the rows of the base, and those of ours and of theirs
abbrev pub ThreeGroups : Type 0
ThreeGroups = EitherOrBoth (List (List (List ℕ))) (EitherOrBoth (List (List (List ℕ))) (List (List (List ℕ))))

-- the cell that a version has
abbrev pub own_cell : Version → List ℕ × (List ℕ × List ℕ) → List ℕ
own_cell version.Base z = z.0
own_cell version.Ours z = z.1.0
own_cell version.Theirs z = z.1.1

abbrev pub or_own : Option (List ℕ) → List ℕ → List ℕ
or_own None own = own
or_own (Some cell) own = cell

-- the cell that a version is told with: the merged one, or where it is in conflict its own
abbrev pub told_cell : Version → Alike × (List ℕ × (List ℕ × List ℕ)) → List ℕ
told_cell version z = or_own (settled_cell z.0 z.1.0 z.1.1.0 z.1.1.1) (own_cell version z.1)

-- the versions of a row that is in each, where they have as many cells as there are columns, each with how its cells are compared
abbrev pub told_versions : List Alike → Option (List (List ℕ)) → Option (List (List ℕ)) → Option (List (List ℕ)) → Option ThreeGroups
told_versions alikes (Some b) (Some p) (Some q) = if same_length b p q && (length alikes == length b)
    then Some (Both (map (told_cell version.Base) (zip alikes (zip b (zip p q))) ∷ [])
    (Both (map (told_cell version.Ours) (zip alikes (zip b (zip p q))) ∷ [])
    (map (told_cell version.Theirs) (zip alikes (zip b (zip p q))) ∷ [])))
    else None
told_versions alikes (Some b) (Some p) None = None
told_versions alikes (Some b) None q = None
told_versions alikes None p q = None

abbrev pub or_versions : Option ThreeGroups → ThreeGroups → ThreeGroups
or_versions None versions = versions
or_versions (Some told) versions = told

-- the versions of a key, where each is one row with the merged cells but for those in conflict, and else as they are
abbrev pub with_merged_cells : List Alike → ThreeGroups → ThreeGroups
with_merged_cells alikes versions = or_versions (told_versions alikes (option_and_then one_row (left_place versions))
    (option_and_then one_row (item_left (right_place versions))) (option_and_then one_row (item_right (right_place versions)))) versions

-- the versions of a key in conflict as they are told
abbrev pub told_by : Unit → List Alike → ThreeGroups → ThreeGroups
told_by unit.Row alikes versions = versions
told_by unit.Cell alikes versions = with_merged_cells alikes versions
