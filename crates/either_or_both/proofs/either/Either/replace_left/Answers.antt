use Rattle.std.proofs.Common.{rules}
use Rattle.either_or_both.proofs.either.Either.replace_left.Goals as goal

pub returns-in-Left-clause-value : goal.returns-in-Left-clause-value
returns-in-Left-clause-value g c = search rules
