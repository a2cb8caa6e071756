use Rattle.std.proofs.Common.{rules}
use Rattle.eob_both.proofs.iter.chain.ChainedIterEitherOrBothIterator.next.Goals as goal

pub returns-in-None-clause-steps : goal.returns-in-None-clause-steps
returns-in-None-clause-steps g c = search rules
