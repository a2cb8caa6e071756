use Rattle.std.proofs.Common.{◌≡◌}
use Rattle.callers.proofs.rows.push_rows.Given as goal

abbrev pub invariant-loop-row : goal.invariant-loop-row
invariant-loop-row g l = l.rows.items ≡ l.yielded
