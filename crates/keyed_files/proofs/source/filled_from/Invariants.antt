use Rattle.std.proofs.Common.{◌≡◌, ◌<◌, ◌≤◌, ℕ, [], Some}
use Rattle.csv.specs.Records.{fields_of}
use Rattle.keyed_columns.specs.CellsUnder.{cell_at}
use Rattle.keyed_files.proofs.source.filled_from.Given as goal

abbrev pub invariant-loop-at : goal.invariant-loop-at
invariant-loop-at l = (k : ℕ) → l.place ≤ k → k < l.at → cell_at (fields_of l.row) (Some k) ≡ []
