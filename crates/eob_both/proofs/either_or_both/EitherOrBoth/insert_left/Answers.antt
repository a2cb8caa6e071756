use Rattle.std.proofs.Common.{rules}
use Rattle.eob_both.proofs.either_or_both.EitherOrBoth.insert_left.Goals as goal

pub returns-in-Left-self : goal.returns-in-Left-self
returns-in-Left-self g c = search rules
