use Rattle.std.proofs.Common.{rules}
use Rattle.eob_both.proofs.either_or_both.EitherOrBoth.unwrap_both.Goals as goal

pub returns : goal.returns
returns g c = search rules
