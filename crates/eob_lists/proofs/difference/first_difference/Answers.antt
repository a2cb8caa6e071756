use Rattle.std.proofs.Common.{rules, refl}
use Rattle.eob_both.specs.Places.{item_left, item_right}
use Rattle.eob_both.specs.Swap.{swap_left, swap_right, swap_steps}
use Rattle.eob_lists.specs.Difference.{agrees}
use Rattle.eob_lists.proofs.DifferenceLemmas.{side_run}
use Rattle.eob_lists.proofs.difference.first_difference.Goals as goal

pub returns : goal.returns
returns g c =
    let it = g.I.Iterator in
    let jt = g.J.Iterator in
    let found = c.find.ensures.runs in
    let numbered = c.enumerate.ensures.runs found.0 (found.0).seen found.1 in
    let walk = (numbered.1).0 in
    let sides = c.into_iter_swap.ensures.runs in
    let steps = swap_steps it.next_gives jt.next_gives in
    let left = side_run steps it.next_gives swap_left item_left refl (λ w r u h. h.0) _ sides.0 sides.4 walk (numbered.1).1 in
    let right = side_run steps jt.next_gives swap_right item_right refl (λ w r u h. h.1) _ sides.1 sides.5 walk (numbered.1).1 in
    (left.0, search rules, (right.0, search rules, search rules))
