use Rattle.std.proofs.Common.{◌++◌, reverse, sym, ap₂, ◌∙◌}
use Rattle.std.proofs.lemmas.Result.{IfOk-weaker}
use Rattle.eob_both.specs.Aligned.{aligned}
use Rattle.eob_both.specs.Places.{left_place, right_place, map_places}
use Rattle.eob_both.proofs.SwapLemmas.{swap_of_places}
use Rattle.eob_known_lists.specs.Listed.{listed_at, place_as_is, place_comes}
use Rattle.eob_known_lists.proofs.OwnLemmas.{map_as_is}
use Rattle.eob_known_lists.proofs.drive.take_swap_in_turn.Goals as goal

pub take_in_turn-requires : goal.take_in_turn-requires
take_in_turn-requires g c = (
  record { view = map_places g.L.Listing.view g.R.Listing.view; items = aligned (listed_at g.L.Listing.listed (left_place c.args.pair)) (listed_at g.R.Listing.listed (right_place c.args.pair)) },
  swap_of_places _ _ _ _ _ _ _ _ (left_place c.args.pair) (right_place c.args.pair) c.into_iter_swap.result
      (place_comes _ _ g.L.Listing.view g.L.Listing.listed g.met.L.CountedListing.counts (left_place c.args.pair))
      (place_comes _ _ g.R.Listing.view g.R.Listing.listed g.met.R.CountedListing.counts (right_place c.args.pair))
      c.into_iter_swap.ensures.left_side c.into_iter_swap.ensures.right_side,
)

pub returns-clause-list : goal.returns-clause-list
returns-clause-list g c =
    let view = map_places g.L.Listing.view g.R.Listing.view in
    let same = place_as_is g.L.Listing.view g.R.Listing.view g.met.L.OwnListing.as_is g.met.R.OwnListing.as_is in
    IfOk-weaker c.take_in_turn.result _ _
    (λ r h. ap₂ (λ a b. a ++ reverse b) (sym (map_as_is view same r.0.items)) (sym (map_as_is view same r.1.items)) ∙ h)
    (c.take_in_turn.ensures.list
    (record { view = view; items = aligned (listed_at g.L.Listing.listed (left_place c.args.pair)) (listed_at g.R.Listing.listed (right_place c.args.pair)) })
    (swap_of_places _ _ _ _ _ _ _ _ (left_place c.args.pair) (right_place c.args.pair) c.into_iter_swap.result
    (place_comes _ _ g.L.Listing.view g.L.Listing.listed g.met.L.CountedListing.counts (left_place c.args.pair))
    (place_comes _ _ g.R.Listing.view g.R.Listing.listed g.met.R.CountedListing.counts (right_place c.args.pair))
    c.into_iter_swap.ensures.left_side c.into_iter_swap.ensures.right_side))
