use Rattle.std.proofs.Common.{◌≡◌, ◌++◌, map, zip}
use Rattle.keyed_jobs.specs.ConflictCells.{told_cell}
use Rattle.keyed_jobs.proofs.ByNumberLemmas.{still}
use Rattle.keyed_jobs.proofs.conflict_cells.told_row.Given as goal

abbrev pub invariant-loop-alike : goal.invariant-loop-alike
invariant-loop-alike l =
    l.row ++ map (told_cell l.version) (still l.alike-iterator)
    ≡ map (told_cell l.version) (zip l.alikes (zip l.base (zip l.ours l.theirs)))
