use Rattle.std.proofs.Common.{◌≡◌}
use Rattle.keyed_jobs.specs.ByNumber.{changed_by_number}
use Rattle.keyed_jobs.proofs.by_number.changed_by_number.Given as goal

abbrev pub invariant-loop-key : goal.invariant-loop-key
invariant-loop-key l = l.changed.items ≡ changed_by_number l.alikes l.yielded
