use Rattle.std.proofs.Common.{map}
use Rattle.eob_joins.specs.Lookup.{shown_lookup}
use Rattle.keyed_files.specs.Writing.{PutsRows}
use Rattle.keyed_files.specs.declared.written.Written.{Written}
use Rattle.keyed_commands.specs.LookupAnswers.{shown_rows}
use Rattle.keyed_commands.proofs.commands.lookup.put_rows.Given as goal

abbrev pub invariant-loop-row : goal.invariant-loop-row
invariant-loop-row l =
    (end : Written) → PutsRows l.written end (shown_rows l.work.columns.now l.work.kind (map shown_lookup l.row-iterator.rest.items))
    → PutsRows l.fn.written end (shown_rows l.work.columns.now l.work.kind (map shown_lookup l.fn.rows.items))
