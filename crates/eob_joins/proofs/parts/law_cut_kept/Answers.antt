use Rattle.eob_joins.proofs.PartLemmas.{cut_kept}
use Rattle.eob_joins.proofs.parts.law_cut_kept.Goals as goal

pub returns : goal.returns
returns g c = cut_kept g.K.Ord.cmp g.met.K.Ord.total g.row.A.Denot g.row.B.Denot g.row.W.Denot
