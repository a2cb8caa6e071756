use Rattle.std.proofs.Common.{◌≡◌}
use Rattle.keyed_jobs.specs.Turned.{turned}
use Rattle.keyed_jobs.proofs.turned.turned_pairs.Given as goal

abbrev pub invariant-loop-key : goal.invariant-loop-key
invariant-loop-key l = l.made.items ≡ turned l.yielded
