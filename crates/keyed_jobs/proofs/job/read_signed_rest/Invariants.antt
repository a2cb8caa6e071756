use Rattle.std.proofs.Common.{◌≡◌, None}
use Rattle.keyed_files.specs.Explained.{SameCount}
use Rattle.keyed_tables.specs.Arranged.{noted}
use Rattle.keyed_jobs.specs.ChangesRead.{PartsOn}
use Rattle.keyed_jobs.proofs.job.read_signed_rest.Given as goal

abbrev pub invariant-loop : goal.invariant-loop
invariant-loop g l = PartsOn g.R.Read.remaining l.places l.fn.source l.source l.fn.gone.items l.gone.items l.fn.come.items l.come.items
    (noted l.fn.order) (noted l.order)
    × (noted l.fn.order ≡ None → noted l.order ≡ None) × (l.source.header ≡ l.fn.source.header) × SameCount l.fn.source l.source
