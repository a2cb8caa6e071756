use Rattle.eob_joins.proofs.AlikeLemmas.{copy_rows}
use Rattle.eob_joins.proofs.laws.law_join_copy.Goals as goal

pub returns : goal.returns
returns g c = copy_rows g.K.Ord.cmp g.met.K.Ord.total g.V.PartialEq.eq g.met.V.Eq.laws
