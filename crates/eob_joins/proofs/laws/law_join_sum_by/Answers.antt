use Rattle.eob_joins.proofs.SumLemmas.{sum_by_law}
use Rattle.eob_joins.proofs.laws.law_join_sum_by.Goals as goal

pub returns : goal.returns
returns g c = sum_by_law g.K.Ord.cmp g.met.K.Ord.total g.row.A.Denot g.row.B.Denot
