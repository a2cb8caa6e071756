use Rattle.eob_both.specs.Ends.{both_ends, HasBound, IsExactly, StillToCome, CountedToCome}
use Rattle.eob_lists.specs.Answers.{Listed}
use Rattle.eob_lists.proofs.DriveLemmas.{Kept}
use Rattle.eob_lists.proofs.drive.drive_walk.Given as goal

-- what was still to come is the answers so far and what is still to come now, for a list that is bounded and for one that is counted
abbrev pub invariant-loop-end : goal.invariant-loop-end
invariant-loop-end g l =
    let it = both_ends g.I.Iterator.can_next g.I.DoubleEndedIterator.can_next_back g.I.Iterator.next_gives g.I.DoubleEndedIterator.next_back_gives g.I.Iterator.remaining in record {
      bounded : (list : Listed _) → StillToCome it list.view list.items l.initial.walk → Kept HasBound it list.view list.items l.ends l.walk l.answers.items l.end-index;
      counted : (list : Listed _) → CountedToCome it list.view list.items l.initial.walk → Kept IsExactly it list.view list.items l.ends l.walk l.answers.items l.end-index;
    }
