use Rattle.std.proofs.Common.{rules}
use Rattle.eob_both.proofs.order.EitherOrBothPartialOrd.partial_cmp.Goals as goal

pub returns : goal.returns
returns g c = search rules
