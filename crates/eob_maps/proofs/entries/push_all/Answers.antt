use Rattle.std.proofs.Common.{true, refl}
use Rattle.std.proofs.iter.runs.Made.{run}
use Rattle.eob_maps.proofs.entries.push_all.Goals as goal

pub returns : goal.returns
returns g c =
    let p = run _ _ c.loop-item.yielded true (_, c.loop-item.yielded_by, λ w. (_, c.in-None.ensures.steps)) in
    (p, c.into_iter-item-iterator.ensures.into_iter_gives, refl, c.loop-item.invariant)
