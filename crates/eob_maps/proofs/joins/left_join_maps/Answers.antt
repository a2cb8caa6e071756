use Rattle.std.specs.Option.{option_map}
use Rattle.eob_maps.proofs.EntryLemmas.{by_get}
use Rattle.eob_maps.proofs.joins.left_join_maps.Goals as goal

pub returns : goal.returns
returns g c k = by_get g.K.Ord.cmp (λ m n. option_map (λ a. (a, n)) m) c.in_ok-left.ensures.entries c.in_ok-right.ensures.entries c.in_ok-map.ensures c.in_ok-rows.ensures.values.values k
