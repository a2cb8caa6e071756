use Rattle.std.proofs.Common.{rules}
use Rattle.either_or_both.proofs.iter_either.values.IntoIterEitherDefault.default.Goals as goal

pub returns : goal.returns
returns g c = search rules
