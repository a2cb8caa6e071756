use Rattle.eob_joins.proofs.TableLemmas.{applied_is}
use Rattle.eob_joins.proofs.changes.law_changed_value.Goals as goal

pub returns : goal.returns
returns g c = applied_is g.V.PartialEq.eq
