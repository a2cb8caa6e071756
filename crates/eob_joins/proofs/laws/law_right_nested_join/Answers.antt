use Rattle.eob_joins.proofs.TableLemmas.{right_nested}
use Rattle.eob_joins.proofs.laws.law_right_nested_join.Goals as goal

pub returns : goal.returns
returns g c = right_nested g.K.Ord.cmp g.row.A.Denot g.row.B.Denot g.row.C.Denot
