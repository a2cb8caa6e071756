use Rattle.std.proofs.Common.{◌≡◌}
use Rattle.callers.proofs.walks.by_a_loop.Given as goal

abbrev pub invariant-loop-item : goal.invariant-loop-item
invariant-loop-item g l = l.items.items ≡ l.yielded
