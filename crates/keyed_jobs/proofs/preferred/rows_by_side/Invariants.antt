use Rattle.std.proofs.Common.{◌≡◌}
use Rattle.keyed_jobs.specs.Preferred.{rows_by_side}
use Rattle.keyed_jobs.proofs.preferred.rows_by_side.Given as goal

abbrev pub invariant-loop-key : goal.invariant-loop-key
invariant-loop-key l = l.settled.items ≡ rows_by_side l.how.unit l.how.alikes.now l.side l.yielded
