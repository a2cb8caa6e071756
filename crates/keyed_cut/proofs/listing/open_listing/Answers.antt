use Rattle.keyed_cut.proofs.ListingLemmas.{listing-open}
use Rattle.keyed_cut.proofs.listing.open_listing.Goals as goal

pub returns : goal.returns
returns g c = listing-open g.R.Read.remaining c.listing_form.result c.listing_form.ensures (g.R.Read.remaining c.args.reader) c.in_ok-opened.opened.source.value c.in_ok-opened.ensures.opened
