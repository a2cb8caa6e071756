use Rattle.eob_joins.proofs.VersionLemmas.{merged_places}
use Rattle.eob_joins.proofs.versions.law_merged_value.Goals as goal

pub returns : goal.returns
returns g c = merged_places g.V.PartialEq.eq
