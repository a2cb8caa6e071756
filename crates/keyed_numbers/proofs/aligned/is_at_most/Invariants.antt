use Rattle.std.proofs.Common.{◌≡◌, ℕ, ◌+◌, ◌≤◌}
use Rattle.keyed_numbers.specs.Digits.{positional}
use Rattle.keyed_numbers.specs.AlignedDigits.{digit_of_sum}
use Rattle.keyed_numbers.proofs.DigitLemmas.{Balance}
use Rattle.keyed_numbers.proofs.aligned.is_at_most.Given as goal

abbrev pub invariant-loop-step : goal.invariant-loop-step
invariant-loop-step l = Balance (positional (digit_of_sum l.lower) l.step) (positional (digit_of_sum l.upper) l.step) l.below l.above
