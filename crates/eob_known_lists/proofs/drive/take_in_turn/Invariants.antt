use Rattle.std.proofs.Common.{◌≡◌, length}
use Rattle.std.specs.Iterator.{size}
use Rattle.eob_both.specs.Ends.{both_ends, IsExactly, CountedToCome, TakenApart}
use Rattle.eob_lists.specs.Answers.{Listed}
use Rattle.eob_known_lists.proofs.drive.take_in_turn.Given as goal

-- what was still to come is what came from the front, what is still to come, and what came from the back, last first; and as
-- many items came from either end
abbrev pub invariant-loop-first : goal.invariant-loop-first
invariant-loop-first g l =
    let it = both_ends g.I.Iterator.can_next g.I.DoubleEndedIterator.can_next_back g.I.Iterator.next_gives g.I.DoubleEndedIterator.next_back_gives g.I.Iterator.remaining in
    ((list : Listed _) → CountedToCome it list.view list.items l.initial.walk → TakenApart IsExactly it list.view list.items l.fronts.items l.backs.items l.walk)
    × (length l.fronts.items ≡ length l.backs.items)

abbrev pub decreases-loop-first : goal.decreases-loop-first
decreases-loop-first g l = size (g.I.Iterator.remaining l.walk)
