use Rattle.std.proofs.Common.{rules}
use Rattle.eob_joins.proofs.versions.join_versions.Goals as goal

pub returns : goal.returns
returns g c = search rules
