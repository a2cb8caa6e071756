use Rattle.std.proofs.Common.{◌∙◌}
use Rattle.keyed_reports.proofs.TableLemmas.{counts-behind}
use Rattle.keyed_reports.proofs.report.Report.new.Goals as goal

pub returns-clause-counts : goal.returns-clause-counts
returns-clause-counts c = c.count.ensures ∙ counts-behind c.args.old_rows c.args.rows.now
