use Rattle.eob_lists.proofs.JoinRefsLemmas.{begins_join}
use Rattle.eob_lists.proofs.join.laws.law_begins_join.Goals as goal

pub returns : goal.returns
returns g c = begins_join g.K.Ord.cmp g.row.A.Denot g.row.B.Denot
