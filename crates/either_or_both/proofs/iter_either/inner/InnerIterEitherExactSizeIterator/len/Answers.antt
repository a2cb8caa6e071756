use Rattle.std.proofs.Common.{rules}
use Rattle.either_or_both.proofs.iter_either.inner.InnerIterEitherExactSizeIterator.len.Goals as goal

pub returns-in-Right-clause-finite : goal.returns-in-Right-clause-finite
returns-in-Right-clause-finite g c = search rules

pub returns-in-Right-clause-value : goal.returns-in-Right-clause-value
returns-in-Right-clause-value g c = search rules
