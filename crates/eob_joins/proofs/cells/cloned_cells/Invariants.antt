use Rattle.std.proofs.Common.{◌≡◌, ◌<◌, ℕ, length}
use Rattle.std.specs.Prelude.{slice_get}
use Rattle.eob_both.specs.Places.{MapsPlace}
use Rattle.eob_joins.specs.Versions.{merged_place}
use Rattle.eob_joins.proofs.cells.cloned_cells.Given as goal

abbrev pub invariant-loop-i : goal.invariant-loop-i
invariant-loop-i g l =
    (length l.row.items ≡ l.i)
    × ((k : ℕ) → k < l.i → MapsPlace g.C.Clone.is_clone (merged_place g.C.PartialEq.eq (slice_get l.base k) (slice_get l.ours k) (slice_get l.theirs k)) (slice_get l.row.items k))
