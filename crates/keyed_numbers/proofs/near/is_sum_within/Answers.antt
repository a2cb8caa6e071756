use Rattle.std.proofs.Common.{◌≡◌, ℕ, ◌+◌, nat_le, sym, ◌∙◌, ap}
use Rattle.keyed_numbers.specs.Digits.{positional}
use Rattle.keyed_numbers.specs.AlignedDigits.{digit_of, digit_of_sum}
use Rattle.keyed_numbers.proofs.AlignedLemmas.{at_most-both_alone}
use Rattle.keyed_numbers.proofs.near.is_sum_within.Goals as goal

pub returns : goal.returns
returns c = c.is_at_most.ensures ∙ at_most-both_alone c.both.result c.alone.result c.args.three.number c.args.three.other c.args.three.tolerance
    c.args.depth c.both.ensures.first c.both.ensures.next c.alone.ensures.first c.alone.ensures.next
