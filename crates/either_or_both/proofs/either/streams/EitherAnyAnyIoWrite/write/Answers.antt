use Rattle.std.proofs.Common.{rules}
use Rattle.either_or_both.proofs.either.streams.EitherAnyAnyIoWrite.write.Goals as goal

pub returns-in-Left-clause-bytes : goal.returns-in-Left-clause-bytes
returns-in-Left-clause-bytes g c = search rules
