use Rattle.std.proofs.Common.{refl, true}
use Rattle.std.proofs.iter.runs.Made.{run}
use Rattle.eob_joins.proofs.MapJoinLemmas.{one_right}
use Rattle.eob_joins.proofs.maps.put_rights.Goals as goal

pub loop-key-preserved : goal.loop-key-preserved
loop-key-preserved g c =
    one_right g.met.K.Eq.laws c.loop-key.yielded c.in-Some.key c.in-Some.b c.args.rows.now.entries c.loop-key.rows.entries c.put_right.new.rows.entries
    c.loop-key.invariant c.in_ok-put_right.ensures

pub returns : goal.returns
returns g c =
    let p = run _ _ c.loop-key.yielded true (_, c.loop-key.yielded_by, λ w. (_, c.in-None.ensures.steps)) in
    (p, c.into_iter-key-iterator.ensures.into_iter_gives, refl, c.loop-key.invariant)
