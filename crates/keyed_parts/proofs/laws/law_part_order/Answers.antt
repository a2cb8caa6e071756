use Rattle.keyed_parts.proofs.PartLemmas.{part_order}
use Rattle.keyed_parts.proofs.laws.law_part_order.Goals as goal

pub returns : goal.returns
returns g c = part_order g.K.Ord.cmp g.met.K.Ord.total
