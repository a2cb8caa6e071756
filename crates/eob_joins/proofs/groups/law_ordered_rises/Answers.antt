use Rattle.eob_joins.proofs.GroupLemmas.{ordered_law}
use Rattle.eob_joins.proofs.groups.law_ordered_rises.Goals as goal

pub returns : goal.returns
returns g c = ordered_law g.K.Ord.cmp g.met.K.Ord.total g.row.V.Denot
