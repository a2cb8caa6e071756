use Rattle.std.proofs.Common.{rules}
use Rattle.either_or_both.proofs.iter_either.inner.InnerIterEitherDoubleEndedIterator.next_back.Goals as goal

pub returns-in-Left-clause-steps : goal.returns-in-Left-clause-steps
returns-in-Left-clause-steps g c = search rules

pub returns-in-Left-clause-goes : goal.returns-in-Left-clause-goes
returns-in-Left-clause-goes g c = search rules
