use Rattle.eob_joins.proofs.MapJoinLemmas.{join_given}
use Rattle.eob_joins.proofs.maps.outer_join_index_maps.Goals as goal

pub returns : goal.returns
returns g c =
    let left = c.into_iter.ensures.into_iter_gives in
    let right = c.into_iter-2.ensures.into_iter_gives in
    join_given g.met.K.Eq.laws c.args.left.entries c.into_iter.result c.args.right.entries c.into_iter-2.result c.put_entries.new.rows.entries
    left.0 left.2 left.4 right.0 right.2 right.4 c.in_ok-put_entries.ensures
