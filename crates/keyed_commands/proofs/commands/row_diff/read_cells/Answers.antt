use Rattle.keyed_commands.proofs.RowDiffLemmas.{cells-read}
use Rattle.keyed_files.proofs.ReadingLemmas.{same-err}
use Rattle.keyed_jobs.specs.Unread.{ExplainsUnread}
use Rattle.keyed_jobs.proofs.UnreadLemmas.{told-of}
use Rattle.keyed_commands.proofs.UnansweredLemmas.{unread-memory}
use Rattle.keyed_commands.proofs.commands.row_diff.read_cells.Goals as goal

pub returns-clause-cells : goal.returns-clause-cells
returns-clause-cells g c =
    cells-read g.R.Read.remaining c.args.job.columns.now c.args.table.now.source.value c.new-rows.result.items c.read_rows.new.rows.items c.in_ok-cells.cells.items
    c.new-rows.ensures.items (rw c.in_ok-at.ensures.value at c.read_rows.ensures.read) (rw c.in_ok-cells.ensures.value at c.cells_of.ensures)

pub returns-in_err-at-clause-why : goal.returns-in_err-at-clause-why
returns-in_err-at-clause-why g c =
    same-err c.from_residual.result c.in_err-at.field-0.0 _ c.from_residual.ensures.1
    (told-of (ExplainsUnread g.R.Read.remaining c.args.job.columns.now c.args.table.now.source.value) c.read_rows.result c.in_err-at.field-0.0 c.in_err-at.ensures.why c.read_rows.ensures.why)

pub returns-in_err-cells-clause-why : goal.returns-in_err-cells-clause-why
returns-in_err-cells-clause-why g c =
    same-err c.from_residual-in_err-cells.result c.in_err-cells.field-0.0 _ c.from_residual-in_err-cells.ensures.1
    (unread-memory g.R.Read.remaining c.args.job.columns.now c.args.table.now.source.value _ c.in_err-cells.ensures.why.2)
