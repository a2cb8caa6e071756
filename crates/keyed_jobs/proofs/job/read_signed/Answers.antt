use Rattle.std.proofs.Common.{subst}
use Rattle.keyed_tables.specs.Arranged.{noted}
use Rattle.keyed_jobs.specs.ChangesRead.{PartsRest}
use Rattle.keyed_jobs.proofs.SignedLemmas.{changes-read}
use Rattle.keyed_jobs.proofs.job.read_signed.Goals as goal

pub returns-clause-read : goal.returns-clause-read
returns-clause-read g c =
    changes-read g.R.Read.remaining c.args.columns.now c.in_ok-places.places c.args.changes.now.source.value c.args.gone.now.items c.read_signed_rest.new.gone.items
    c.args.come.now.items c.read_signed_rest.new.come.items (noted c.args.order.now) (noted c.read_signed_rest.new.order) (rw c.deref.ensures at c.in_ok-places.ensures.places)
    (subst (λ source. PartsRest g.R.Read.remaining c.in_ok-places.places source c.args.gone.now.items c.read_signed_rest.new.gone.items
    c.args.come.now.items c.read_signed_rest.new.come.items (noted c.args.order.now) (noted c.read_signed_rest.new.order)) c.deref_mut.ensures.value c.in_ok-read_signed_rest.ensures.read)
