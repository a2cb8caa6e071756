-- Rows in conflict that are settled by a side of a merge: they stand as it has them.
use Rattle.std.specs.Prelude.{ℕ, List, Option, Some}
use Rattle.eob_both.specs.Places.{item_left, item_right, right_place}
use Rattle.eob_joins.specs.Tables.{kept}
use Rattle.keyed_requests.specs.declared.merging.Side.{Side}
use Rattle.keyed_requests.specs.declared.merging.Side.TheVariants as side
use Rattle.keyed_requests.specs.declared.merging.Unit.{Unit}
use Rattle.keyed_numbers.specs.declared.alike.Alike.{Alike}
use Rattle.eob_joins.specs.declared.marked.Marked.{Marked}
use Rattle.eob_joins.specs.declared.marked.Marked.TheVariants.{Settled, Unresolved}
use Rattle.keyed_jobs.specs.ConflictCells.{ThreeGroups, told_by}

-- the rows that a side has under a key, if it has any
abbrev pub version_of : Side → ThreeGroups → Option (List (List (List ℕ)))
version_of side.Ours versions = item_left (right_place versions)
version_of side.Theirs versions = item_right (right_place versions)

-- what stands of a key: its merged rows, or where it is in conflict the side's version as it is told, which by cell has the merged cells
-- but for those in conflict
abbrev pub row_by_side : Unit → List Alike → Side → Marked (List (List (List ℕ))) → Option (List (List (List ℕ)))
row_by_side by alikes of (Settled rows) = Some rows
row_by_side by alikes of (Unresolved versions) = version_of of (told_by by alikes versions)

-- the merged rows in their order, each as what stands of it
abbrev pub rows_by_side : {K : Type 0} → Unit → List Alike → Side → List (K × Marked (List (List (List ℕ)))) → List (K × List (List (List ℕ)))
rows_by_side by alikes of rows = kept (row_by_side by alikes of) rows
