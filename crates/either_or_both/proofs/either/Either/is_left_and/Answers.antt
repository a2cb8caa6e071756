use Rattle.std.proofs.Common.{rules}
use Rattle.either_or_both.proofs.either.Either.is_left_and.Goals as goal

pub returns : goal.returns
returns g c = search rules
