use Rattle.std.proofs.Common.{drop}
use Rattle.std.specs.Prelude.{option_map}
use Rattle.keyed_files.specs.declared.written.Written.{Written}
use Rattle.keyed_files.specs.Rows.{rows_under, shown_sign}
use Rattle.keyed_files.specs.Writing.{PutsRows}
use Rattle.keyed_files.proofs.written.Written.put_rows.Given as goal

abbrev pub invariant-loop-rest : goal.invariant-loop-rest
invariant-loop-rest l =
    (end : Written) → PutsRows l.self end (rows_under (option_map shown_sign l.fn.sign) l.columns.order.items l.key (drop l.rest-index l.rest-items))
    → PutsRows l.fn.self end (rows_under (option_map shown_sign l.fn.sign) l.columns.order.items l.key l.rest-items)
