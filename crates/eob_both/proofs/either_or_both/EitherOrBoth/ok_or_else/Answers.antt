use Rattle.std.proofs.Common.{ap}
use Rattle.eob_both.specs.Places.{left_place}
use Rattle.eob_both.proofs.either_or_both.EitherOrBoth.ok_or_else.Goals as goal

-- a value that is Left or Both has a left value, so the closure may be called
pub error-requires : goal.error-requires
error-requires g c = c.requires _ (ap left_place c.in-Left.is)

pub error-requires-in-Both : goal.error-requires-in-Both
error-requires-in-Both g c = c.requires _ (ap left_place c.in-Both.is)
