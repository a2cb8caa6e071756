use Rattle.eob_lists.proofs.RisingLemmas.{rising_keys}
use Rattle.eob_lists.proofs.join.laws.law_rising_keys.Goals as goal

pub returns : goal.returns
returns g c = rising_keys g.K.Ord.cmp g.met.K.Ord.total g.row.V.Denot
