use Rattle.std.proofs.Common.{rules}
use Rattle.eob_both.proofs.text.EitherOrBothDisplay.fmt.Goals as goal

pub returns-in-Both-clause-writes : goal.returns-in-Both-clause-writes
returns-in-Both-clause-writes g c = search rules
