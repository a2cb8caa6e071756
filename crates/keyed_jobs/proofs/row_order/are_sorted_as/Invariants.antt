use Rattle.std.proofs.Common.{◌≡◌, map, take}
use Rattle.keyed_jobs.proofs.row_order.are_sorted_as.Given as goal

abbrev pub invariant-loop-row : goal.invariant-loop-row
invariant-loop-row l = map (λ row. row.now) l.sorted.items ≡ take l.row-index l.order
