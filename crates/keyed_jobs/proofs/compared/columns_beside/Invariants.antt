use Rattle.std.proofs.Common.{◌≡◌, ◌++◌, map}
use Rattle.keyed_jobs.specs.Beside.{is_compared}
use Rattle.keyed_jobs.proofs.compared.columns_beside.Given as goal

abbrev pub invariant-loop-name : goal.invariant-loop-name
invariant-loop-name l =
    l.compared.items ++ map (is_compared l.ignored l.before l.after) l.name-iterator ≡ map (is_compared l.ignored l.before l.after) l.names
