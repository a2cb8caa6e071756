use Rattle.std.proofs.Common.{rules}
use Rattle.either_or_both.proofs.iter_either.swap.SwapIterEitherIterator.next.Goals as goal

pub returns-in_ok-next-in-Left-clause-steps : goal.returns-in_ok-next-in-Left-clause-steps
returns-in_ok-next-in-Left-clause-steps g c = search rules
