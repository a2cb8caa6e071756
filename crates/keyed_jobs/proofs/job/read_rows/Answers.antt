use Rattle.std.proofs.Common.{subst}
use Rattle.keyed_files.specs.Reading.{ReadsRest}
use Rattle.keyed_files.proofs.TableLemmas.{table-read}
use Rattle.keyed_jobs.proofs.job.read_rows.Goals as goal

pub returns-clause-read : goal.returns-clause-read
returns-clause-read g c =
    table-read g.R.Read.remaining c.args.columns.now c.in_ok-places.places c.args.table.now.source.value c.args.rows.now.items c.read_rest.new.rows.items
    (rw c.deref.ensures at c.in_ok-places.ensures.places)
    (subst (λ source. ReadsRest g.R.Read.remaining c.in_ok-places.places source c.args.rows.now.items c.read_rest.new.rows.items) c.deref_mut.ensures.value
    c.in_ok-read_rest.ensures.read)
