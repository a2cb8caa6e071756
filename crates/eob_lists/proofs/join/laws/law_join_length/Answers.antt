use Rattle.eob_lists.proofs.JoinLemmas.{join_length}
use Rattle.eob_lists.proofs.join.laws.law_join_length.Goals as goal

pub returns : goal.returns
returns g c = join_length g.K.Ord.cmp g.met.K.Ord.total g.row.A.Denot g.row.B.Denot
