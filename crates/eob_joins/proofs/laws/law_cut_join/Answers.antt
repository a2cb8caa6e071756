use Rattle.eob_joins.proofs.JoinLawLemmas.{cut_join}
use Rattle.eob_joins.proofs.laws.law_cut_join.Goals as goal

pub returns : goal.returns
returns g c = cut_join g.K.Ord.cmp g.met.K.Ord.total g.row.A.Denot g.row.B.Denot
