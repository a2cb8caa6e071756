use Rattle.std.proofs.Common.{rules}
use Rattle.eob_both.proofs.iter.swap.SwapIterEitherOrBothExactSizeIterator.len.Goals as goal

pub returns-clause-value : goal.returns-clause-value
returns-clause-value g c = search rules
