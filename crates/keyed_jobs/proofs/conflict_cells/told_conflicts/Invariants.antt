use Rattle.std.proofs.Common.{◌≡◌, map}
use Rattle.keyed_jobs.specs.ConflictCells.{told_by}
use Rattle.keyed_jobs.proofs.conflict_cells.told_conflicts.Given as goal

abbrev pub invariant-loop-key : goal.invariant-loop-key
invariant-loop-key l = l.told.items ≡ map (λ row. (row.0, told_by l.how.unit l.how.alikes.now row.1)) l.yielded
