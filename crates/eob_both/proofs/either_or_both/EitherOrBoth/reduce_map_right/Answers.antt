use Rattle.std.proofs.Common.{rules}
use Rattle.eob_both.proofs.either_or_both.EitherOrBoth.reduce_map_right.Goals as goal

pub returns-in-Both : goal.returns-in-Both
returns-in-Both g c = search rules
