use Rattle.std.proofs.Common.{◌≡◌, ◌++◌, map}
use Rattle.keyed_jobs.specs.MadeChanges.{is_missing}
use Rattle.keyed_jobs.proofs.changes_made.are_missing.Given as goal

abbrev pub invariant-loop-name : goal.invariant-loop-name
invariant-loop-name l = l.missing.items ++ map (is_missing l.changes) l.name-iterator ≡ map (is_missing l.changes) l.names
