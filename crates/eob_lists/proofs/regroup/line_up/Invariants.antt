use Rattle.std.proofs.Common.{◌≡◌}
use Rattle.eob_lists.proofs.regroup.line_up.Given as goal

abbrev pub invariant-loop-value : goal.invariant-loop-value
invariant-loop-value g l = l.lined_up.items ≡ l.yielded
