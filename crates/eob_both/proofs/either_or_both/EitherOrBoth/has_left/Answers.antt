use Rattle.std.proofs.Common.{rules}
use Rattle.eob_both.proofs.either_or_both.EitherOrBoth.has_left.Goals as goal

pub returns-in_default : goal.returns-in_default
returns-in_default g c = search rules
