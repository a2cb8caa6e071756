use Rattle.eob_joins.proofs.AlikeLemmas.{alike_rows}
use Rattle.eob_joins.proofs.laws.law_alike_rows.Goals as goal

pub returns : goal.returns
returns g c = alike_rows g.K.Ord.cmp g.met.K.Ord.total g.V.PartialEq.eq
