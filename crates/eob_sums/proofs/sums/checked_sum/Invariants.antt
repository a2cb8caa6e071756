use Rattle.std.proofs.Common.{◌≡◌, sum, take}
use Rattle.eob_sums.specs.Sums.{fitting}
use Rattle.eob_sums.proofs.sums.checked_sum.Given as goal

abbrev pub invariant-loop-number : goal.invariant-loop-number
invariant-loop-number l = l.total ≡ fitting (sum (take l.number-index l.numbers))
