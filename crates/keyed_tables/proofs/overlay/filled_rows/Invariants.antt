use Rattle.std.proofs.Common.{◌≡◌, ◌++◌, map}
use Rattle.keyed_tables.specs.Laid.{filled}
use Rattle.keyed_tables.proofs.overlay.filled_rows.Given as goal

abbrev pub invariant-loop-row : goal.invariant-loop-row
invariant-loop-row l = l.rows.items ++ map (λ row. (row.0, filled row.1)) l.row-iterator.rest.items ≡ map (λ row. (row.0, filled row.1)) l.fn.joined.items
