use Rattle.std.proofs.Common.{rules}
use Rattle.eob_both.proofs.forms.EitherOrBoth+T+T.map.Goals as goal

pub returns-in-Both-clause-left : goal.returns-in-Both-clause-left
returns-in-Both-clause-left g c = search rules

pub returns-in-Both-clause-right : goal.returns-in-Both-clause-right
returns-in-Both-clause-right g c = search rules
