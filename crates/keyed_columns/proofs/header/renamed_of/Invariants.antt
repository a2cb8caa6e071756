use Rattle.std.proofs.Common.{◌≡◌, ◌++◌}
use Rattle.keyed_columns.specs.KeyColumns.{with_two_names}
use Rattle.keyed_columns.proofs.header.renamed_of.Given as goal

abbrev pub invariant-loop-first : goal.invariant-loop-first
invariant-loop-first l = l.names ++ with_two_names l.first-iterator.a l.first-iterator.b ≡ with_two_names l.key.first l.key.others
