use Rattle.eob_joins.proofs.TableLemmas.{kept_law}
use Rattle.eob_joins.proofs.laws.law_kept.Goals as goal

pub returns : goal.returns
returns g c = kept_law g.K.Ord.cmp g.met.K.Ord.total g.row.V.Denot g.row.W.Denot
