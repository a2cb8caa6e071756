use Rattle.std.proofs.Common.{◌≡◌}
use Rattle.eob_joins.specs.Changes.{applied}
use Rattle.eob_joins.specs.Tables.{kept}
use Rattle.eob_joins.proofs.changes.applied_rows.Given as goal

abbrev pub invariant-loop-row : goal.invariant-loop-row
invariant-loop-row g l = l.rows.items ≡ kept applied l.yielded
