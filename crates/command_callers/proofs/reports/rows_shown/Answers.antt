use Rattle.std.proofs.Common.{false, ◌∙◌, ap}
use Rattle.std.proofs.lemmas.Result.{IfOk-weaker}
use Rattle.keyed_reports.specs.RowChanges.{row_changes, rows_eq}
use Rattle.command_callers.proofs.reports.rows_shown.Goals as goal

pub returns : goal.returns
returns c = IfOk-weaker c.row_changes.result _ _ (λ rows shown. shown ∙ ap (row_changes rows_eq false) c.requires) c.row_changes.ensures
