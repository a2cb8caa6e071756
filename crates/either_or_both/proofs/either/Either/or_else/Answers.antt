use Rattle.std.proofs.Common.{rules}
use Rattle.either_or_both.proofs.either.Either.or_else.Goals as goal

pub f-requires : goal.f-requires
f-requires g c = search rules

pub returns-in-Left-clause-left : goal.returns-in-Left-clause-left
returns-in-Left-clause-left g c = search rules
