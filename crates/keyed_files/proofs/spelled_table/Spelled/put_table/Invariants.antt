use Rattle.std.proofs.Common.{List, ℕ}
use Rattle.keyed_files.specs.Rows.{table_rows}
use Rattle.keyed_files.specs.SpelledFiles.{PutsSpelled}
use Rattle.keyed_files.proofs.spelled_table.Spelled.put_table.Given as goal

abbrev pub invariant-loop-row : goal.invariant-loop-row
invariant-loop-row l =
    (end : List ℕ) → PutsSpelled l.fn.self.form l.text.items end (table_rows l.fn.self.columns.now.order.items l.row-iterator.rest.items)
    → PutsSpelled l.fn.self.form l.fn.text.items end (table_rows l.fn.self.columns.now.order.items l.fn.rows.items)
