use Rattle.std.proofs.Common.{rules}
use Rattle.eob_both.proofs.either_or_both.EitherOrBoth.is_right_or.Goals as goal

pub returns : goal.returns
returns g c = search rules
