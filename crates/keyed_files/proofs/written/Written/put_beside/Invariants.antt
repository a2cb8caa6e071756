use Rattle.std.proofs.Common.{[], ◌∷◌}
use Rattle.keyed_files.specs.JoinedRows.{each_before, joined_row}
use Rattle.keyed_files.specs.Writing.{PutsRows}
use Rattle.keyed_files.proofs.written.Written.put_beside.Given as goal

abbrev pub invariant-loop-right : goal.invariant-loop-right
invariant-loop-right l = PutsRows l.fn.self l.self (each_before (λ right. joined_row l.columns l.key l.sides l.left right ∷ []) l.right)
