use Rattle.std.proofs.Common.{rules}
use Rattle.either_or_both.proofs.either.Either.biinspect.Goals as goal

pub returns-clause-right : goal.returns-clause-right
returns-clause-right g c = search rules
