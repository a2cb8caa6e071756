use Rattle.std.proofs.Common.{refl}
use Rattle.keyed_numbers.specs.AlignedDigits.{digit_of_sum}
use Rattle.keyed_numbers.proofs.DigitLemmas.{above_wins, below_wins}
use Rattle.keyed_numbers.proofs.AlignedLemmas.{digit_of_sum-bound}
use Rattle.keyed_numbers.proofs.aligned.is_at_most.Goals as goal

pub returns-then-above-gt1 : goal.returns-then-above-gt1
returns-then-above-gt1 c = above_wins (digit_of_sum c.args.lower) (digit_of_sum c.args.upper) c.loop-step.step c.args.depth
    c.loop-step.below c.loop-step.above c.digit.result c.digit-in-loop-step.result c.min-both.result
    c.loop-step.invariant.balance c.digit.ensures.value c.digit-in-loop-step.ensures.value c.min-both.ensures
    c.if-above-gt1.true c.loop-step-test.true (digit_of_sum-bound c.args.lower)

pub returns-then-below-gt1 : goal.returns-then-below-gt1
returns-then-below-gt1 c = below_wins (digit_of_sum c.args.lower) (digit_of_sum c.args.upper) c.loop-step.step c.args.depth
    c.loop-step.below c.loop-step.above c.digit.result c.digit-in-loop-step.result c.min-both.result
    c.loop-step.invariant.balance c.digit.ensures.value c.digit-in-loop-step.ensures.value c.min-both.ensures
    c.if-below-gt1.true c.loop-step-test.true (digit_of_sum-bound c.args.upper)
