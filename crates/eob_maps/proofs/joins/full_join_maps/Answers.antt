use Rattle.eob_both.specs.Places.{from_places}
use Rattle.eob_maps.proofs.EntryLemmas.{by_get}
use Rattle.eob_maps.proofs.joins.full_join_maps.Goals as goal

pub returns : goal.returns
returns g c k = by_get g.K.Ord.cmp from_places c.in_ok-left.ensures.entries c.in_ok-right.ensures.entries c.in_ok-map.ensures c.in_ok-rows.ensures.join.values k
