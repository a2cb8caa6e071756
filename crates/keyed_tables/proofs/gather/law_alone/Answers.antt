use Rattle.keyed_tables.proofs.GatherLemmas.{alone_law}
use Rattle.keyed_tables.proofs.gather.law_alone.Goals as goal

pub returns : goal.returns
returns g c = alone_law g.K.Ord.cmp g.met.K.Ord.total g.row.V.Denot
