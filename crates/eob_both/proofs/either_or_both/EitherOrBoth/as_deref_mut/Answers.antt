use Rattle.std.proofs.Common.{rules}
use Rattle.eob_both.proofs.either_or_both.EitherOrBoth.as_deref_mut.Goals as goal

pub returns-in-Both-clause-left : goal.returns-in-Both-clause-left
returns-in-Both-clause-left g c = search rules
