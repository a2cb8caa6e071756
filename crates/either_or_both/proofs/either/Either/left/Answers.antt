use Rattle.std.proofs.Common.{rules}
use Rattle.either_or_both.proofs.either.Either.left.Goals as goal

pub returns-in-Left : goal.returns-in-Left
returns-in-Left g c = search rules
