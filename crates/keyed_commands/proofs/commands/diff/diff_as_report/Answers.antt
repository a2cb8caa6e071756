use Rattle.std.proofs.Common.{◌∙◌, ap, ap₂, length, map, subst, sym}
use Rattle.std.proofs.lemmas.List.{length-map}
use Rattle.std.specs.Prelude.{◌==◌, ◌&&◌, not}
use Rattle.keyed_jobs.specs.Answers.{columns_differ, status_of}
use Rattle.keyed_reports.specs.RowChanges.{row_behind, row_changes, rows_eq}
use Rattle.keyed_reports.specs.SaidAfter.{count_rows, counts_of}
use Rattle.keyed_reports.specs.Shown.{count_more, shown_rows}
use Rattle.keyed_reports.specs.TableLines.{TellsTable}
use Rattle.keyed_commands.proofs.ReportLemmas.{map-shown, table-alike, told-same}
use Rattle.keyed_commands.proofs.commands.diff.diff_as_report.Goals as goal

pub returns-clause-status : goal.returns-clause-status
returns-clause-status c = λ plain.
    let differ = columns_differ c.args.column_changes in (
      (length c.in_ok-changes.changes.items == 0) && not differ,
      told-same (length c.in_ok-changes.changes.items) differ (c.in_ok-changes.ensures.none plain),
      c.in_ok-status.ensures ∙ ap (λ shown. status_of ((length shown == 0) && not differ)) c.deref-3.ensures.value,
    )

pub returns-clause-table : goal.returns-clause-table
returns-clause-table c = λ plain tells.
    let job = c.args.job.now in
    let view = c.args.how.view in
    let report = c.new-report.result in
    let told = c.new-report.ensures in
    let alikes = rw c.in_ok-alikes.was at (c.alikes.ensures.plain (c.in_ok-tolerances.ensures.plain plain)) in
    let changed = ap (map row_behind) c.deref-6.ensures.value ∙ c.in_ok-rows.ensures ∙ ap (row_changes rows_eq job.groups) c.deref-4.ensures.value in
    let rows = ap (map row_behind) told.rows ∙ map-shown row_behind view.rows _ ∙ ap (shown_rows view.rows) changed in
    let more = told.more ∙ ap (count_more view.rows) (sym (length-map _ row_behind) ∙ ap length changed) in
    let counts = told.counts ∙ ap₂ counts_of (c.count_rows-old_rows.ensures ∙ ap count_rows c.deref.ensures.value) changed in record {
      changes = c.in_ok-changes.changes.items;
      come_out = c.in_ok-changes.ensures.changes plain;
      table = table-alike report.view view report.alikes.now _ report.columns.now job.columns.now report.more _ report.counts _
          (map row_behind report.rows.now) _ c.in_ok-bytes.bytes.items
          told.view (told.alikes ∙ c.deref-5.ensures.value ∙ alikes) told.columns more counts rows (c.in_ok-bytes.ensures (subst (TellsTable c.args.look) (sym told.view) tells));
    }
