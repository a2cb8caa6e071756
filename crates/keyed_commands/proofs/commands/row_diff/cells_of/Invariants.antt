use Rattle.std.proofs.Common.{◌≡◌, ◌++◌, map}
use Rattle.keyed_commands.proofs.commands.row_diff.cells_of.Given as goal

abbrev pub invariant-loop-row : goal.invariant-loop-row
invariant-loop-row l = l.cells.items ++ map (λ row. row.cells) l.row-iterator.rest.items ≡ map (λ row. row.cells) l.fn.rows.items
