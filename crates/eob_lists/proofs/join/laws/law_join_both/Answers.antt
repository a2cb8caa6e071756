use Rattle.eob_lists.proofs.JoinLemmas.{join_both}
use Rattle.eob_lists.proofs.join.laws.law_join_both.Goals as goal

pub returns : goal.returns
returns g c = join_both g.K.Ord.cmp g.met.K.Ord.total g.row.A.Denot g.row.B.Denot
