use Rattle.std.proofs.Common.{List, ℕ, drop}
use Rattle.std.specs.Prelude.{None}
use Rattle.keyed_files.specs.Rows.{rows_under}
use Rattle.keyed_files.specs.SpelledFiles.{PutsSpelled}
use Rattle.keyed_files.proofs.spelled_table.Spelled.put_group.Given as goal

abbrev pub invariant-loop-rest : goal.invariant-loop-rest
invariant-loop-rest l =
    (end : List ℕ) → PutsSpelled l.fn.self.form l.text.items end (rows_under None l.fn.self.columns.now.order.items l.key (drop l.rest-index l.rest-items))
    → PutsSpelled l.fn.self.form l.fn.text.items end (rows_under None l.fn.self.columns.now.order.items l.key l.rest-items)
