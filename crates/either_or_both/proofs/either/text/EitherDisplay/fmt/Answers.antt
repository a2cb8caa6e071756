use Rattle.std.proofs.Common.{rules}
use Rattle.either_or_both.proofs.either.text.EitherDisplay.fmt.Goals as goal

pub returns-in-Right-clause-writes : goal.returns-in-Right-clause-writes
returns-in-Right-clause-writes g c = search rules

pub returns-in-Right-clause-styled : goal.returns-in-Right-clause-styled
returns-in-Right-clause-styled g c = search rules

pub returns-in-Left-clause-styled : goal.returns-in-Left-clause-styled
returns-in-Left-clause-styled g c = search rules
