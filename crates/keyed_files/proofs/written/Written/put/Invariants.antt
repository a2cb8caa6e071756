use Rattle.keyed_files.specs.declared.written.Written.{Written}
use Rattle.keyed_files.specs.Writing.{PutsCells}
use Rattle.keyed_files.proofs.written.Written.put.Given as goal

abbrev pub invariant-loop-cell : goal.invariant-loop-cell
invariant-loop-cell l = (end : Written) → PutsCells l.self end l.cell-iterator → PutsCells l.fn.self end l.cells
