use Rattle.eob_joins.proofs.AlikeLemmas.{self_rows}
use Rattle.eob_joins.proofs.laws.law_join_self_rows.Goals as goal

pub returns : goal.returns
returns g c = self_rows g.K.Ord.cmp g.met.K.Ord.total g.row.V.Denot
