use Rattle.std.proofs.Common.{◌≡◌}
use Rattle.keyed_jobs.specs.ByNumber.{settled_by_number}
use Rattle.keyed_jobs.proofs.by_number.settled_by_number.Given as goal

abbrev pub invariant-loop-key : goal.invariant-loop-key
invariant-loop-key l = l.merged.items ≡ settled_by_number l.alikes l.unit l.yielded
