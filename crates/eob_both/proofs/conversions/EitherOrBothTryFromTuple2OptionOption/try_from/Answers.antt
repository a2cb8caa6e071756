use Rattle.std.proofs.Common.{rules}
use Rattle.eob_both.proofs.conversions.EitherOrBothTryFromTuple2OptionOption.try_from.Goals as goal

pub returns-in-None-r-2 : goal.returns-in-None-r-2
returns-in-None-r-2 g c = search rules
