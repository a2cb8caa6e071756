use Rattle.eob_lists.proofs.RisingLemmas.{rising_law}
use Rattle.eob_lists.proofs.join.laws.law_rising.Goals as goal

pub returns : goal.returns
returns g c = rising_law g.K.Ord.cmp g.row.V.Denot
