use Rattle.std.proofs.Common.{rules}
use Rattle.eob_both.proofs.iter.chain.ChainedIterEitherOrBothDoubleEndedIterator.next_back.Goals as goal

pub returns-in-Some-clause-steps : goal.returns-in-Some-clause-steps
returns-in-Some-clause-steps g c = search rules

pub returns-in-None-clause-steps : goal.returns-in-None-clause-steps
returns-in-None-clause-steps g c = search rules
