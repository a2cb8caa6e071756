use Rattle.eob_joins.proofs.AlikeLemmas.{same_rows}
use Rattle.eob_joins.proofs.laws.law_same_rows.Goals as goal

pub returns : goal.returns
returns g c = same_rows g.K.Ord.cmp g.met.K.Ord.total g.row.V.Denot
