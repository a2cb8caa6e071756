use Rattle.eob_joins.proofs.VersionLemmas.{versions_law}
use Rattle.eob_joins.proofs.versions.law_versions.Goals as goal

pub returns : goal.returns
returns g c = versions_law g.K.Ord.cmp g.row.V.Denot
