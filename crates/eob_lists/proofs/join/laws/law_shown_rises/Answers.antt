use Rattle.eob_lists.proofs.RisingLemmas.{shown_rises}
use Rattle.eob_lists.proofs.join.laws.law_shown_rises.Goals as goal

pub returns : goal.returns
returns g c = shown_rises g.K.Ord.cmp g.row.V.Denot
