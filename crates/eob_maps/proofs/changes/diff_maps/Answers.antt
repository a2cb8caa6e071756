use Rattle.std.specs.Option.{option_and_then}
use Rattle.eob_both.specs.Places.{from_places}
use Rattle.eob_joins.specs.Changes.{changed}
use Rattle.eob_maps.proofs.EntryLemmas.{by_get}
use Rattle.eob_maps.proofs.changes.diff_maps.Goals as goal

pub returns : goal.returns
returns g c k = by_get g.K.Ord.cmp (λ m n. option_and_then (changed g.V.PartialEq.eq) (from_places m n)) c.in_ok-old.ensures.entries c.in_ok-new.ensures.entries c.in_ok-map.ensures c.in_ok-rows.ensures.values.values k
