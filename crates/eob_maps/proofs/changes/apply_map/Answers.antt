use Rattle.std.specs.Option.{option_and_then}
use Rattle.eob_both.specs.Places.{from_places}
use Rattle.eob_joins.specs.Changes.{applied}
use Rattle.eob_maps.proofs.EntryLemmas.{by_get}
use Rattle.eob_maps.proofs.changes.apply_map.Goals as goal

pub returns : goal.returns
returns g c k = by_get g.K.Ord.cmp (λ m n. option_and_then applied (from_places m n)) c.in_ok-old.ensures.entries c.in_ok-changes.ensures.entries c.in_ok-map.ensures c.in_ok-rows.ensures.values.values k
