use Rattle.eob_lists.proofs.RisingLemmas.{sorted_rises}
use Rattle.eob_lists.proofs.join.laws.law_sorted_rises.Goals as goal

pub returns : goal.returns
returns g c = sorted_rises g.K.Ord.cmp g.row.V.Denot
