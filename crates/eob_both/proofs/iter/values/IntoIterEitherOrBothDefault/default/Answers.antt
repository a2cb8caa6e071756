use Rattle.std.proofs.Common.{rules}
use Rattle.eob_both.proofs.iter.values.IntoIterEitherOrBothDefault.default.Goals as goal

pub returns : goal.returns
returns g c = search rules
