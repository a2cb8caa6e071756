use Rattle.std.proofs.Common.{◌≡◌, ◌<◌, ◌≤◌, ℕ}
use Rattle.std.specs.Prelude.{slice_get}
use Rattle.eob_joins.specs.Versions.{merged_place}
use Rattle.eob_joins.proofs.cells.merge_cells_in_place.Given as goal

abbrev pub invariant-loop-i : goal.invariant-loop-i
invariant-loop-i g l =
    ((k : ℕ) → k < l.i → slice_get l.ours k ≡ merged_place g.C.PartialEq.eq (slice_get l.base k) (slice_get l.fn.ours k) (slice_get l.fn.theirs k))
    × ((k : ℕ) → l.i ≤ k → slice_get l.ours k ≡ slice_get l.fn.ours k)
    × ((k : ℕ) → l.i ≤ k → slice_get l.theirs k ≡ slice_get l.fn.theirs k)
