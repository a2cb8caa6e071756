use Rattle.std.proofs.Common.{◌≡◌, [], Option}
use Rattle.either_or_both.specs.Join.{Rising}
use Rattle.keyed_faults.specs.declared.fault.Fault.{Fault}
use Rattle.keyed_jobs.specs.Answers.{TableRows, key_cmp}
use Rattle.keyed_tables.specs.Arranged.{noted}
use Rattle.keyed_jobs.specs.FileOrder.{Keys}
use Rattle.keyed_jobs.specs.TablesRead.{IsUnordered}
use Rattle.keyed_commands.specs.OverlayAnswers.{LaysTables, NotesAll, rows_laid}
use Rattle.keyed_commands.specs.UnansweredOverlay.{ExplainsLaid}
use Rattle.keyed_commands.proofs.commands.overlay.lay_all.Given as goal

abbrev pub invariant-loop-table : goal.invariant-loop-table
invariant-loop-table g l = record {
  laid : (rows : TableRows) → LaysTables g.R.Read.remaining l.layer l.fn.job.groups l.fn.job.columns.now (rows_laid l.laid) l.table-iterator.rest.items rows
      → LaysTables g.R.Read.remaining l.layer l.fn.job.groups l.fn.job.columns.now [] l.fn.tables.items rows;
  rises : Rising key_cmp (rows_laid l.laid);
  notes : (after : Option Keys) → NotesAll g.R.Read.remaining l.fn.job.columns.now l.table-iterator.rest.items (noted l.job.order) after
      → NotesAll g.R.Read.remaining l.fn.job.columns.now l.fn.tables.items (noted l.fn.job.order) after;
  same : l.job ≡ record l.fn.job { order = l.job.order; row_order = l.job.row_order };
  unordered : IsUnordered l.fn.job → IsUnordered l.job;
  why : (fault : Fault) → ExplainsLaid g.R.Read.remaining l.fn.job.groups l.fn.job.columns.now l.table-iterator.rest.items fault
      → ExplainsLaid g.R.Read.remaining l.fn.job.groups l.fn.job.columns.now l.fn.tables.items fault;
}
