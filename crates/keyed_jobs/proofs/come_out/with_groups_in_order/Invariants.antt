use Rattle.std.proofs.Common.{◌++◌}
use Rattle.keyed_jobs.specs.ComeOut.{AlikeByKey}
use Rattle.keyed_jobs.proofs.come_out.with_groups_in_order.Given as goal

abbrev pub invariant-loop-row : goal.invariant-loop-row
invariant-loop-row g l =
    (more : _) → AlikeByKey g.V.Grouped.alike l.row-iterator.rest.items more → AlikeByKey g.V.Grouped.alike l.fn.rows.items (l.arranged.items ++ more)
