use Rattle.std.proofs.Common.{rules}
use Rattle.either_or_both.proofs.either.Either.inject_left.Goals as goal

pub returns-in-Left-clause-left : goal.returns-in-Left-clause-left
returns-in-Left-clause-left g c = search rules
