use Rattle.std.proofs.Common.{◌≡◌, ◌+◌, ◌++◌, length}
use Rattle.eob_lists.proofs.MergeLemmas.{merge}
use Rattle.eob_lists.proofs.join.outer_join.Given as goal

-- what is joined and what the two lists have left make one list
abbrev pub invariant-loop-item : goal.invariant-loop-item
invariant-loop-item g l = l.joined.items ++ merge g.K.Ord.cmp l.left.items l.right.items ≡ merge g.K.Ord.cmp l.fn.left.items l.fn.right.items

abbrev pub decreases-loop-item : goal.decreases-loop-item
decreases-loop-item g l = length l.left.items + length l.right.items
