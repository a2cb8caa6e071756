use Rattle.std.proofs.Common.{◌∙◌, ◌++◌, ap, map}
use Rattle.std.proofs.lemmas.Iterator.Consumers.{YieldsList-end}
use Rattle.either_or_both.specs.Prelude.{aligned, map_places}
use Rattle.eob_both.specs.Swap.{swap_left, swap_right}
use Rattle.keyed_reports.specs.RowChanges.{row_behind}
use Rattle.keyed_reports.proofs.RowLemmas.{seen_with, slices_beside}
use Rattle.keyed_reports.proofs.changed_rows.push_paired.Goals as goal

pub returns : goal.returns
returns c =
    let sides = c.into_iter_swap-row-items.ensures.runs in
    let made = c.into_iter-row-iterator.ensures.into_iter_gives in
    let given = slices_beside c.args.gone.now c.args.come.now c.into_iter-row-iterator.result sides.0 sides.1 sides.2.0 sides.3.0 (ap swap_left made ∙ sides.4) (ap swap_right made ∙ sides.5) in
    let whole = (YieldsList-end given c.loop-row.yielded c.loop-row.row-iterator c.loop-row.yielded_by c.next.result c.next.new.self c.in-None.is c.next.ensures.steps).0 in
    c.loop-row.invariant ∙ ap (λ l. map row_behind c.args.rows.now.items ++ l)
    (seen_with c.args.key.now (map_places (λ cells. cells.now) (λ cells. cells.now)) c.loop-row.yielded (aligned c.args.gone.now c.args.come.now) whole)
