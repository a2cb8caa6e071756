use Rattle.std.proofs.Common.{rules}
use Rattle.eob_both.proofs.either_or_both.EitherOrBoth.replace_any.Goals as goal

pub returns-clause-right : goal.returns-clause-right
returns-clause-right g c = search rules
