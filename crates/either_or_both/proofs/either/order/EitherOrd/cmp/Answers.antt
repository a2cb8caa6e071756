use Rattle.std.proofs.Common.{rules}
use Rattle.either_or_both.proofs.either.order.EitherOrd.cmp.Goals as goal

pub returns-in-Right-other : goal.returns-in-Right-other
returns-in-Right-other g c = search rules

pub returns-in-Left-other-2 : goal.returns-in-Left-other-2
returns-in-Left-other-2 g c = search rules
