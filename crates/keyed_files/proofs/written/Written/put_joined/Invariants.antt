use Rattle.keyed_files.specs.JoinedRows.{each_before, rows_beside}
use Rattle.keyed_files.specs.Writing.{PutsRows}
use Rattle.keyed_files.proofs.written.Written.put_joined.Given as goal

abbrev pub invariant-loop-place : goal.invariant-loop-place
invariant-loop-place l = PutsRows l.fn.self l.self (each_before (rows_beside l.columns l.key l.sides) l.place)
