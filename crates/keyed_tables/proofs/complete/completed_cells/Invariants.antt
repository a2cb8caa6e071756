use Rattle.std.proofs.Common.{◌≡◌, ◌++◌, map}
use Rattle.keyed_tables.specs.Completed.{completed_cell, completed_cells}
use Rattle.keyed_tables.proofs.CompletedLemmas.{still}
use Rattle.keyed_tables.proofs.complete.completed_cells.Given as goal

abbrev pub invariant-loop-is_missing : goal.invariant-loop-is_missing
invariant-loop-is_missing l = l.cells ++ map (λ z. completed_cell z.0 z.1.0 z.1.1) (still l.is_missing-iterator) ≡ completed_cells l.missing l.row l.given
