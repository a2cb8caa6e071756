use Rattle.eob_joins.proofs.TableLemmas.{self_join}
use Rattle.eob_joins.proofs.laws.law_join_self.Goals as goal

pub returns : goal.returns
returns g c = self_join g.K.Ord.cmp g.met.K.Ord.total g.row.V.Denot
