use Rattle.std.proofs.Common.{rules}
use Rattle.eob_both.proofs.either_or_both.EitherOrBoth.replace_left.Goals as goal

pub returns-in-Both-clause-value : goal.returns-in-Both-clause-value
returns-in-Both-clause-value g c = search rules

pub returns-in-Both-clause-left : goal.returns-in-Both-clause-left
returns-in-Both-clause-left g c = search rules
