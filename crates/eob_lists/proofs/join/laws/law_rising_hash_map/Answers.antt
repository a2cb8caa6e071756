use Rattle.eob_lists.proofs.RisingLemmas.{rising_eq_map}
use Rattle.eob_lists.proofs.join.laws.law_rising_hash_map.Goals as goal

pub returns : goal.returns
returns g c = rising_eq_map g.K.Ord.cmp g.met.K.Ord.total g.row.V.Denot g.K.PartialEq.eq g.met.K.Ord.matches_eq
