use Rattle.std.proofs.Common.{rules}
use Rattle.either_or_both.proofs.either.streams.EitherBufRead.fill_buf.Goals as goal

pub returns-in-Left : goal.returns-in-Left
returns-in-Left g c = search rules
