use Rattle.std.proofs.Common.{sym, ◌∙◌}
use Rattle.keyed_reports.specs.RowChanges.{row_behind}
use Rattle.keyed_reports.proofs.TableLemmas.{some-text}
use Rattle.keyed_reports.proofs.table.render_rows.Goals as goal

pub returns-in_ok-text-in-None : goal.returns-in_ok-text-in-None
returns-in_ok-text-in-None c =
    let report = c.args.report.now in
    λ narrow. some-text row_behind report.alikes.now c.args.shown.now report.columns.now report.rows.now _ (sym c.is_empty.ensures ∙ c.if-is_empty.false) c.in_ok-text-in-None.ensures
