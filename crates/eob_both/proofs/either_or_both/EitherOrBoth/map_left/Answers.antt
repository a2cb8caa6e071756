use Rattle.std.proofs.Common.{rules}
use Rattle.eob_both.proofs.either_or_both.EitherOrBoth.map_left.Goals as goal

pub returns-in-Both-clause-right : goal.returns-in-Both-clause-right
returns-in-Both-clause-right g c = search rules
