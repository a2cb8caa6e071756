use Rattle.std.proofs.Common.{ap, length, sym}
use Rattle.command_callers.specs.Shown.{rows_after, rows_before}
use Rattle.command_callers.proofs.reports.count_that_differ.Goals as goal

pub returns : goal.returns
returns c = sym (ap length (c.law_told_differs.ensures rows_before rows_after))
