use Rattle.eob_lists.proofs.JoinLemmas.{one_join}
use Rattle.eob_lists.proofs.join.laws.law_one_join.Goals as goal

pub returns : goal.returns
returns g c = one_join g.K.Ord.cmp g.met.K.Ord.total g.row.A.Denot g.row.B.Denot
