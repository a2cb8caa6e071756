use Rattle.std.proofs.Common.{rules}
use Rattle.eob_both.proofs.either_or_both.EitherOrBoth.or.Goals as goal

pub returns-in-Left-clause-left : goal.returns-in-Left-clause-left
returns-in-Left-clause-left g c = search rules
