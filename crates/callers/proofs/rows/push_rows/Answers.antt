use Rattle.std.proofs.Common.{true, refl}
use Rattle.std.proofs.iter.runs.Made.{run}
use Rattle.callers.proofs.rows.push_rows.Goals as goal

pub returns : goal.returns
returns g c =
    let p = run _ _ c.loop-row.yielded true (_, c.loop-row.yielded_by, λ w. (_, c.in-None.ensures.steps)) in
    rw c.loop-row.invariant ((c.outer_join_slices-row-items.ensures.runs p p.seen c.into_iter-row-iterator.ensures.into_iter_gives).join refl)
