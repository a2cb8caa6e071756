use Rattle.eob_both.specs.Places.{left_place, right_place}
use Rattle.eob_known_lists.specs.Listed.{listed_at, place_comes_bounded}
use Rattle.eob_known_lists.proofs.drive.drive_chain_listed.Goals as goal

pub drive_chain-requires : goal.drive_chain-requires
drive_chain-requires g c = (
  g.T.Listing.view,
  listed_at g.T.Listing.listed (left_place c.args.pair),
  listed_at g.T.Listing.listed (right_place c.args.pair),
  place_comes_bounded _ _ g.T.Listing.view g.T.Listing.listed g.met.T.Listing.comes (left_place c.args.pair),
  place_comes_bounded _ _ g.T.Listing.view g.T.Listing.listed g.met.T.Listing.comes (right_place c.args.pair),
)

pub returns : goal.returns
returns g c = c.drive_chain.ensures g.T.Listing.view (listed_at g.T.Listing.listed (left_place c.args.pair)) (listed_at g.T.Listing.listed (right_place c.args.pair))
    (place_comes_bounded _ _ g.T.Listing.view g.T.Listing.listed g.met.T.Listing.comes (left_place c.args.pair))
    (place_comes_bounded _ _ g.T.Listing.view g.T.Listing.listed g.met.T.Listing.comes (right_place c.args.pair))
