use Rattle.std.proofs.Common.{◌∙◌, ◌<◌, ◌≤◌, length}
use Rattle.std.proofs.lemmas.List.{drop_all, drop_more}
use Rattle.keyed_columns.proofs.JoinedLemmas.{name-then, names-end}
use Rattle.keyed_jobs.proofs.rejected.names_in_order.Goals as goal

pub loop-place-preserved : goal.loop-place-preserved
loop-place-preserved c =
    let order = c.args.columns.now.order.items in
    let is = c.deref-place-items.ensures.value in
    let lt : c.loop-place.place-index < length order = rw is at c.loop-place-test.true in
    record {
      key = c.take.ensures.key ∙ c.loop-place.invariant.key;
      placed = name-then _ _ _ _ _ _ _ order c.loop-place.place-index _ _ (drop_more order c.loop-place.place-index _ lt)
          c.loop-place.invariant.key (rw is at c.take.ensures.cell) (rw is at c.take.ensures.rest) c.in_ok-push.ensures.pushed c.loop-place.invariant.placed;
    }

pub returns : goal.returns
returns c =
    let order = c.args.columns.now.order.items in
    let all : length order ≤ c.loop-place.place-index = rw c.deref-place-items.ensures.value at c.loop-place-test.false in
    names-end _ _ _ _ order c.loop-place.place-index (drop_all c.loop-place.place-index order all) c.loop-place.invariant.placed
