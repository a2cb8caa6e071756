use Rattle.std.proofs.Common.{rules}
use Rattle.either_or_both.proofs.either.forms.Either+T+T.map.Goals as goal

pub returns-in-Left-clause-left : goal.returns-in-Left-clause-left
returns-in-Left-clause-left g c = search rules

pub returns-in-Left-clause-right : goal.returns-in-Left-clause-right
returns-in-Left-clause-right g c = search rules
