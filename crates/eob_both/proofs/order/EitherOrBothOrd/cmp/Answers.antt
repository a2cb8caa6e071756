use Rattle.std.proofs.Common.{rules}
use Rattle.eob_both.proofs.order.EitherOrBothOrd.cmp.Goals as goal

pub returns-in-Both-other : goal.returns-in-Both-other
returns-in-Both-other g c = search rules

pub returns-in-Left-other-2 : goal.returns-in-Left-other-2
returns-in-Left-other-2 g c = search rules
