use Rattle.eob_joins.proofs.TableLemmas.{left_nested}
use Rattle.eob_joins.proofs.laws.law_left_nested_join.Goals as goal

pub returns : goal.returns
returns g c = left_nested g.K.Ord.cmp g.row.A.Denot g.row.B.Denot g.row.C.Denot
