use Rattle.std.proofs.Common.{rules}
use Rattle.either_or_both.proofs.either.Either.unwrap_left.Goals as goal

pub unreachable-requires : goal.unreachable-requires
unreachable-requires g c = search rules
