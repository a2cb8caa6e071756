use Rattle.eob_joins.proofs.TableLemmas.{same_table}
use Rattle.eob_joins.proofs.laws.law_same_table.Goals as goal

pub returns : goal.returns
returns g c = same_table g.K.Ord.cmp g.met.K.Ord.total g.row.V.Denot
