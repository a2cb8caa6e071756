use Rattle.eob_lists.proofs.JoinLemmas.{join_flip}
use Rattle.eob_lists.proofs.join.laws.law_join_flip.Goals as goal

pub returns : goal.returns
returns g c = join_flip g.K.Ord.cmp g.met.K.Ord.total g.row.A.Denot g.row.B.Denot
