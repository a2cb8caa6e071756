use Rattle.eob_joins.proofs.TableLemmas.{right_law}
use Rattle.eob_joins.proofs.laws.law_join_right.Goals as goal

pub returns : goal.returns
returns g c = right_law g.K.Ord.cmp g.met.K.Ord.total g.row.A.Denot g.row.B.Denot
