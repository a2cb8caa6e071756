use Rattle.keyed_files.specs.declared.written.Written.{Written}
use Rattle.keyed_files.specs.Writing.{PutsRows}
use Rattle.keyed_jobs.specs.ChangeRows.{changes_rows}
use Rattle.keyed_jobs.proofs.changes.put_changes.Given as goal

abbrev pub invariant-loop-row : goal.invariant-loop-row
invariant-loop-row l =
    (end : Written) → PutsRows l.written end (changes_rows l.columns.order.items l.row-iterator.rest.items) → PutsRows l.fn.written end (changes_rows l.columns.order.items l.fn.changes.items)
