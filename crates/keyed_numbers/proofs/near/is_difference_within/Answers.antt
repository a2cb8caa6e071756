use Rattle.std.proofs.Common.{◌≡◌, ◌∙◌, sym}
use Rattle.keyed_numbers.proofs.AlignedLemmas.{and-false, and-true, at_most-alone_both}
use Rattle.keyed_numbers.proofs.near.is_difference_within.Goals as goal

pub returns-then-is_at_most : goal.returns-then-is_at_most
returns-then-is_at_most c = and-true _ _ _ _
    (c.is_at_most.ensures ∙ at_most-alone_both c.alone.result c.both.result c.args.three.number c.args.three.other c.args.three.tolerance
    c.args.depth c.alone.ensures.first c.alone.ensures.next c.both.ensures.first c.both.ensures.next)
    c.if-is_at_most.true
    (c.is_at_most-then-is_at_most.ensures ∙ at_most-alone_both c.alone-then-is_at_most.result c.both-then-is_at_most.result
    c.args.three.other c.args.three.number c.args.three.tolerance c.args.depth c.alone-then-is_at_most.ensures.first
    c.alone-then-is_at_most.ensures.next c.both-then-is_at_most.ensures.first c.both-then-is_at_most.ensures.next)

pub returns-else-is_at_most : goal.returns-else-is_at_most
returns-else-is_at_most c = and-false _ _ _
    (c.is_at_most.ensures ∙ at_most-alone_both c.alone.result c.both.result c.args.three.number c.args.three.other c.args.three.tolerance
    c.args.depth c.alone.ensures.first c.alone.ensures.next c.both.ensures.first c.both.ensures.next)
    c.if-is_at_most.false
