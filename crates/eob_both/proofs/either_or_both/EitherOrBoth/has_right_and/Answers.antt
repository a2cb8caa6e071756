use Rattle.std.proofs.Common.{rules}
use Rattle.eob_both.proofs.either_or_both.EitherOrBoth.has_right_and.Goals as goal

pub returns-in-Left : goal.returns-in-Left
returns-in-Left g c = search rules
