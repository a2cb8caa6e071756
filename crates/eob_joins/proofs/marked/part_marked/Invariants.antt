use Rattle.std.proofs.Common.{◌≡◌}
use Rattle.eob_joins.specs.Marked.{settled_value, unresolved_versions}
use Rattle.eob_joins.specs.Tables.{kept}
use Rattle.eob_joins.proofs.marked.part_marked.Given as goal

abbrev pub invariant-loop-key : goal.invariant-loop-key
invariant-loop-key g l = (l.settled.items ≡ kept settled_value l.yielded) × (l.unresolved.items ≡ kept unresolved_versions l.yielded)
