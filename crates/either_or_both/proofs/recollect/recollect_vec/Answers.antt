use Rattle.std.proofs.Common.{rules}
use Rattle.either_or_both.proofs.recollect.recollect_vec.Goals as goal

pub returns : goal.returns
returns g c = search rules
