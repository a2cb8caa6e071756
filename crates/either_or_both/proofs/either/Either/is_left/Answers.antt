use Rattle.std.proofs.Common.{rules}
use Rattle.either_or_both.proofs.either.Either.is_left.Goals as goal

pub returns-in_default : goal.returns-in_default
returns-in_default g c = search rules
