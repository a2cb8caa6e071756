use Rattle.std.proofs.Common.{◌≡◌, ◌++◌}
use Rattle.keyed_text.specs.Spelling.{cells_as}
use Rattle.keyed_files.proofs.spelled_table.put_more.Given as goal

abbrev pub invariant-loop-cell : goal.invariant-loop-cell
invariant-loop-cell l =
    l.body.items ++ cells_as l.marks.delimiter l.marks.comment l.quotes l.cell-iterator ≡ l.fn.body.items ++ cells_as l.marks.delimiter l.marks.comment l.fn.quotes l.fn.cells
