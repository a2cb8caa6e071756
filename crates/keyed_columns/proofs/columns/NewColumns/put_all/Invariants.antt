use Rattle.keyed_columns.specs.NewColumns.{SeesNames}
use Rattle.keyed_columns.specs.declared.columns.NewColumns.{NewColumns}
use Rattle.keyed_columns.proofs.columns.NewColumns.put_all.Given as goal

abbrev pub invariant-loop-name : goal.invariant-loop-name
invariant-loop-name l = (end : NewColumns) → SeesNames l.self end l.name-iterator → SeesNames l.fn.self end l.header
