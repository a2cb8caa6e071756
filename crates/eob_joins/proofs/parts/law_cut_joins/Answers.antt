use Rattle.eob_joins.proofs.PartLemmas.{cut_joins}
use Rattle.eob_joins.proofs.parts.law_cut_joins.Goals as goal

pub returns : goal.returns
returns g c = cut_joins g.K.Ord.cmp g.met.K.Ord.total g.row.A.Denot g.row.B.Denot
