use Rattle.keyed_parts.proofs.PartLemmas.{parts_below}
use Rattle.keyed_parts.proofs.laws.law_parts_below.Goals as goal

pub returns : goal.returns
returns g c = parts_below g.K.Ord.cmp g.met.K.Ord.total g.row.V.Denot g.row.W.Denot
