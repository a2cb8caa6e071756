use Rattle.eob_joins.proofs.MapJoinLemmas.{overlay_made}
use Rattle.eob_joins.proofs.maps.overlay_index_maps.Goals as goal

pub returns : goal.returns
returns g c =
    overlay_made g.met.K.Eq.laws c.args.base.entries c.args.over.entries c.in_ok-rows.rows.entries c.put_layers.new.rows.entries
    c.len.ensures.unique c.len-2.ensures.unique c.in_ok-rows.ensures c.in_ok-put_layers.ensures
