use Rattle.std.proofs.Common.{◌≡◌, ◌++◌, map}
use Rattle.keyed_jobs.specs.Rejected.{marked_in}
use Rattle.keyed_jobs.proofs.rejected.marked_in.Given as goal

abbrev pub invariant-loop-name : goal.invariant-loop-name
invariant-loop-name l = l.marked ++ map (marked_in l.how.going l.how.coming) l.name-iterator ≡ map (marked_in l.how.going l.how.coming) l.names
