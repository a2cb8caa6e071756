use Rattle.std.proofs.Common.{◌≡◌, None}
use Rattle.keyed_files.specs.Explained.{SameCount}
use Rattle.keyed_files.specs.Reading.{ReadsOn}
use Rattle.keyed_tables.specs.Arranged.{noted}
use Rattle.keyed_jobs.specs.FileOrder.{NotesRows}
use Rattle.keyed_jobs.proofs.job.read_rest.Given as goal

abbrev pub invariant-loop : goal.invariant-loop
invariant-loop g l = ReadsOn g.R.Read.remaining l.places l.fn.source l.source l.fn.rows.items l.rows.items
    × (noted l.fn.order ≡ None → noted l.order ≡ None) × (l.source.header ≡ l.fn.source.header)
    × NotesRows l.fn.rows.items l.rows.items (noted l.fn.order) (noted l.order) × SameCount l.fn.source l.source
