use Rattle.std.proofs.Common.{rules}
use Rattle.eob_both.proofs.iter.swap.SwapIterEitherOrBothDoubleEndedIterator.next_back.Goals as goal

pub returns-in-Equal-clause-steps : goal.returns-in-Equal-clause-steps
returns-in-Equal-clause-steps g c = search rules
