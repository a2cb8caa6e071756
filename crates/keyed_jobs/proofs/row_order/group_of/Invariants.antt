use Rattle.std.proofs.Common.{◌≡◌}
use Rattle.eob_joins.specs.Groups.{some_items}
use Rattle.keyed_jobs.proofs.row_order.group_of.Given as goal

abbrev pub invariant-loop-row : goal.invariant-loop-row
invariant-loop-row l = l.made ≡ some_items l.yielded
