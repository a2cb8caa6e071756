use Rattle.std.proofs.Common.{◌≡◌, ◌-◌, ◌^◌, length, map, min, sum, take}
use Rattle.keyed_reports.proofs.counts.count_rows.Given as goal

abbrev pub invariant-loop-pair : goal.invariant-loop-pair
invariant-loop-pair l = l.count ≡ min (sum (map (λ pair. length pair.1) (take l.pair-index l.pairs))) (2 ^ 64 - 1)
