use Rattle.std.proofs.Common.{◌≡◌}
use Rattle.keyed_columns.specs.ColumnNames.{key_first}
use Rattle.keyed_columns.proofs.columns.key_first.Given as goal

abbrev pub invariant-loop-place : goal.invariant-loop-place
invariant-loop-place l = l.order.items ≡ key_first l.place 0

abbrev pub invariant-loop-beside : goal.invariant-loop-beside
invariant-loop-beside l = l.order.items ≡ key_first l.key l.beside
