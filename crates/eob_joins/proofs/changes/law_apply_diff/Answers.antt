use Rattle.eob_joins.proofs.TableLemmas.{apply_diff}
use Rattle.eob_joins.proofs.changes.law_apply_diff.Goals as goal

pub returns : goal.returns
returns g c = apply_diff g.K.Ord.cmp g.met.K.Ord.total g.V.PartialEq.eq
