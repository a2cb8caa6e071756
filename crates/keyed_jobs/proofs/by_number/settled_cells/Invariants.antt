use Rattle.std.proofs.Common.{◌≡◌, ◌++◌, option_map, zip}
use Rattle.keyed_jobs.specs.ByNumber.{settled_cells}
use Rattle.keyed_jobs.proofs.ByNumberLemmas.{still}
use Rattle.keyed_jobs.proofs.by_number.settled_cells.Given as goal

abbrev pub invariant-loop-alike : goal.invariant-loop-alike
invariant-loop-alike l =
    option_map (λ rest. l.merged ++ rest) (settled_cells (still l.alike-iterator))
    ≡ settled_cells (zip l.alikes (zip l.base (zip l.ours l.theirs)))
