use Rattle.eob_lists.proofs.OuterJoinLemmas.{join_finite, join_runs}
use Rattle.eob_lists.proofs.join.walk.outer_join_lazily.Goals as goal

pub returns-clause-ends : goal.returns-clause-ends
returns-clause-ends g c =
    let it = g.U.IntoIter.Iterator in
    let jt = g.V.IntoIter.Iterator in
    let s = c.into_iter-lefts.result in
    let t = c.into_iter-rights.result in
    let left = c.next-left in
    let right = c.next-right in (
      s,
      t,
      c.into_iter-lefts.ensures.into_iter_gives,
      c.into_iter-rights.ensures.into_iter_gives,
      join_finite it.can_next it.remaining s left.new.self left.result jt.can_next jt.remaining t right.new.self right.result left.ensures.goes right.ensures.goes,
    )

pub returns-clause-runs : goal.returns-clause-runs
returns-clause-runs g c =
    let it = g.U.IntoIter.Iterator in
    let jt = g.V.IntoIter.Iterator in
    let s = c.into_iter-lefts.result in
    let t = c.into_iter-rights.result in
    let left = c.next-left in
    let right = c.next-right in (
      s,
      t,
      c.into_iter-lefts.ensures.into_iter_gives,
      c.into_iter-rights.ensures.into_iter_gives,
      (left.ensures.steps, right.ensures.steps),
      join_runs g.K.Ord.cmp it.next_gives jt.next_gives g.met.K.Ord.total _ s t left.ensures.steps right.ensures.steps,
    )
