use Rattle.std.proofs.Common.{◌≡◌}
use Rattle.keyed_jobs.specs.Beside.{changed_beside}
use Rattle.keyed_jobs.proofs.compared.changed_beside.Given as goal

abbrev pub invariant-loop-key : goal.invariant-loop-key
invariant-loop-key l = l.changed.items ≡ changed_beside l.compared l.yielded
