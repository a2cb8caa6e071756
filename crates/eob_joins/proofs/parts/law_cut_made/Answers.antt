use Rattle.eob_joins.proofs.MadePartLemmas.{cut_made}
use Rattle.eob_joins.proofs.parts.law_cut_made.Goals as goal

pub returns : goal.returns
returns g c = λ make none. cut_made g.K.Ord.cmp g.met.K.Ord.total make none
