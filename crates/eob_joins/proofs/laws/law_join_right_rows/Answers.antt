use Rattle.eob_joins.proofs.AlikeLemmas.{right_rows}
use Rattle.eob_joins.proofs.laws.law_join_right_rows.Goals as goal

pub returns : goal.returns
returns g c = right_rows g.K.Ord.cmp g.met.K.Ord.total g.row.A.Denot g.row.B.Denot
