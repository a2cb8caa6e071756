use Rattle.std.specs.Prelude.{vec_len}
use Rattle.keyed_sqlite.specs.Tables.{WritesTable}
use Rattle.keyed_sqlite.proofs.text.put_rows.Given as goal

abbrev pub invariant-loop : goal.invariant-loop
invariant-loop l = WritesTable (vec_len l.definition.columns) l.fn.rows → WritesTable (vec_len l.definition.columns) l.rows
