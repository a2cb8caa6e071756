use Rattle.keyed_cut.proofs.ListingLawLemmas.{listing-reads}
use Rattle.keyed_cut.proofs.laws.law_listing_reads.Goals as goal

pub returns : goal.returns
returns c = listing-reads
