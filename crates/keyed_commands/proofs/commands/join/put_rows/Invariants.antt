use Rattle.std.specs.Prelude.{is_none}
use Rattle.keyed_files.specs.declared.written.Written.{Written}
use Rattle.keyed_commands.specs.JoinAnswers.{PutsJoin}
use Rattle.keyed_commands.proofs.commands.join.put_rows.Given as goal

abbrev pub invariant-loop-row : goal.invariant-loop-row
invariant-loop-row g l =
    (end : Written)
    → PutsJoin l.job.columns.now g.T.JoinedRow.shows (is_none l.job.row_order.files) g.T.JoinedRow.alike l.written end l.row-iterator.rest.items
    → PutsJoin l.job.columns.now g.T.JoinedRow.shows (is_none l.job.row_order.files) g.T.JoinedRow.alike l.fn.written end l.fn.rows.items
