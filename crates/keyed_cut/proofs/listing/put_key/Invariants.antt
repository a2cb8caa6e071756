use Rattle.keyed_files.specs.Writing.{PutsCells}
use Rattle.keyed_cut.specs.Partitioned.{fitted}
use Rattle.keyed_cut.proofs.listing.put_key.Given as goal

abbrev pub invariant-loop-place : goal.invariant-loop-place
invariant-loop-place l = PutsCells l.fn.rows l.rows (fitted l.place l.bound)
