use Rattle.std.proofs.Common.{rules}
use Rattle.eob_both.proofs.conversions.EitherOrBothFromTuple2.from.Goals as goal

pub returns : goal.returns
returns g c = search rules
