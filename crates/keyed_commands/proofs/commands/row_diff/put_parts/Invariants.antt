use Rattle.std.proofs.Common.{drop}
use Rattle.keyed_files.specs.Writing.{PutsRows}
use Rattle.keyed_files.specs.declared.written.Written.{Written}
use Rattle.keyed_commands.specs.RowDiff.{signed_rows}
use Rattle.keyed_commands.proofs.commands.row_diff.put_parts.Given as goal

abbrev pub invariant-loop-part : goal.invariant-loop-part
invariant-loop-part l =
    (end : Written) → PutsRows l.written end (signed_rows (drop l.part-index l.parts)) → PutsRows l.fn.written end (signed_rows l.parts)
