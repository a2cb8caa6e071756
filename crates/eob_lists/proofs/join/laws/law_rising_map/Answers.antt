use Rattle.eob_lists.proofs.RisingLemmas.{rising_map}
use Rattle.eob_lists.proofs.join.laws.law_rising_map.Goals as goal

pub returns : goal.returns
returns g c = rising_map g.K.Ord.cmp g.met.K.Ord.total g.row.V.Denot
