use Rattle.std.proofs.Common.{rules}
use Rattle.eob_both.proofs.either_or_both.EitherOrBoth.into_left.Goals as goal

pub returns-clause-left : goal.returns-clause-left
returns-clause-left g c = search rules

pub returns-clause-right : goal.returns-clause-right
returns-clause-right g c = search rules
