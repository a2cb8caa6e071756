use Rattle.eob_lists.proofs.RisingLemmas.{shown_join}
use Rattle.eob_lists.proofs.join.laws.law_shown_join.Goals as goal

pub returns : goal.returns
returns g c = shown_join g.K.Ord.cmp g.row.A.Denot g.row.B.Denot
