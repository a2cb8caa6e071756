use Rattle.std.proofs.Common.{rules}
use Rattle.eob_both.proofs.either_or_both.EitherOrBoth.has_left_or.Goals as goal

pub f-requires : goal.f-requires
f-requires g c = search rules
