use Rattle.std.proofs.Common.{◌≡◌, map, take}
use Rattle.keyed_jobs.proofs.row_order.are_same.Given as goal

abbrev pub invariant-loop-place : goal.invariant-loop-place
invariant-loop-place l = take l.place l.rows ≡ map (λ row. row.now) (take l.place l.others)
