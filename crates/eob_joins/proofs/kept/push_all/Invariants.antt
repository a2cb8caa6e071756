use Rattle.std.proofs.Common.{◌≡◌}
use Rattle.eob_joins.proofs.kept.push_all.Given as goal

abbrev pub invariant-loop-item : goal.invariant-loop-item
invariant-loop-item g l = l.list.items ≡ l.yielded
