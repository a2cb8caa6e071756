use Rattle.keyed_files.specs.declared.written.Written.{Written}
use Rattle.keyed_files.specs.Rows.{table_rows}
use Rattle.keyed_files.specs.Writing.{PutsRows}
use Rattle.keyed_files.proofs.written.put_table.Given as goal

abbrev pub invariant-loop-row : goal.invariant-loop-row
invariant-loop-row l =
    (end : Written) → PutsRows l.written end (table_rows l.columns.order.items l.row-iterator.rest.items) → PutsRows l.fn.written end (table_rows l.columns.order.items l.fn.rows.items)
