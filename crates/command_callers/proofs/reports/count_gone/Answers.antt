use Rattle.std.proofs.Common.{[], ◌∷◌, sym}
use Rattle.std.specs.Prelude.{codes}
use Rattle.command_callers.specs.Shown.{rows_after, rows_before}
use Rattle.command_callers.proofs.reports.count_gone.Goals as goal

pub returns : goal.returns
returns c = sym (c.law_lone_count.ensures (codes "x" ∷ []) rows_before rows_after)
