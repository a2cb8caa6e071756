use Rattle.eob_joins.proofs.MapJoinLemmas.{parts_law}
use Rattle.eob_joins.proofs.maps.law_map_join_parts.Goals as goal

pub returns : goal.returns
returns g c = parts_law g.K.PartialEq.eq g.row.A.Denot g.row.B.Denot
