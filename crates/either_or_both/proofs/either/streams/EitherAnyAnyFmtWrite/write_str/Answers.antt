use Rattle.std.proofs.Common.{rules}
use Rattle.either_or_both.proofs.either.streams.EitherAnyAnyFmtWrite.write_str.Goals as goal

pub returns-in-Left-clause-ok : goal.returns-in-Left-clause-ok
returns-in-Left-clause-ok g c = search rules
