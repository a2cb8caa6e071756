use Rattle.std.proofs.Common.{ap}
use Rattle.either_or_both.specs.Either.{left_place}
use Rattle.either_or_both.proofs.either.Either.ok_or_else.Goals as goal

-- a value that is Left has a left value, so the closure may be called
pub error-requires : goal.error-requires
error-requires g c = c.requires _ (ap left_place c.in-Left.is)
