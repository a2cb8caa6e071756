use Rattle.eob_both.specs.Places.{left_place, right_place}
use Rattle.eob_known_lists.specs.Listed.{listed_at, place_comes}
use Rattle.eob_known_lists.proofs.drive.drive_swap_listed.Goals as goal

pub drive_swap-requires : goal.drive_swap-requires
drive_swap-requires g c = (
  record { view = g.L.Listing.view; items = listed_at g.L.Listing.listed (left_place c.args.pair) },
  record { view = g.R.Listing.view; items = listed_at g.R.Listing.listed (right_place c.args.pair) },
  place_comes _ _ g.L.Listing.view g.L.Listing.listed g.met.L.CountedListing.counts (left_place c.args.pair),
  place_comes _ _ g.R.Listing.view g.R.Listing.listed g.met.R.CountedListing.counts (right_place c.args.pair),
)

pub returns-clause-answers : goal.returns-clause-answers
returns-clause-answers g c = c.drive_swap.ensures.answers
    (record { view = g.L.Listing.view; items = listed_at g.L.Listing.listed (left_place c.args.pair) })
    (record { view = g.R.Listing.view; items = listed_at g.R.Listing.listed (right_place c.args.pair) })
    (place_comes _ _ g.L.Listing.view g.L.Listing.listed g.met.L.CountedListing.counts (left_place c.args.pair))
    (place_comes _ _ g.R.Listing.view g.R.Listing.listed g.met.R.CountedListing.counts (right_place c.args.pair))

pub returns-clause-rest : goal.returns-clause-rest
returns-clause-rest g c = c.drive_swap.ensures.rest
    (record { view = g.L.Listing.view; items = listed_at g.L.Listing.listed (left_place c.args.pair) })
    (record { view = g.R.Listing.view; items = listed_at g.R.Listing.listed (right_place c.args.pair) })
    (place_comes _ _ g.L.Listing.view g.L.Listing.listed g.met.L.CountedListing.counts (left_place c.args.pair))
    (place_comes _ _ g.R.Listing.view g.R.Listing.listed g.met.R.CountedListing.counts (right_place c.args.pair))
