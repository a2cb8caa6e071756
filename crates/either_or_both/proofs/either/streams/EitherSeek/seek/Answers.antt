use Rattle.std.proofs.Common.{rules}
use Rattle.either_or_both.proofs.either.streams.EitherSeek.seek.Goals as goal

pub returns-in-Left-clause-moves : goal.returns-in-Left-clause-moves
returns-in-Left-clause-moves g c = search rules
