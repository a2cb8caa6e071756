use Rattle.std.proofs.Common.{◌≡◌}
use Rattle.eob_maps.proofs.entries.push_all.Given as goal

abbrev pub invariant-loop-item : goal.invariant-loop-item
invariant-loop-item g l = l.list.items ≡ l.yielded
