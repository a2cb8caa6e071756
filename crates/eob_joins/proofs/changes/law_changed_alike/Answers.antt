use Rattle.eob_joins.proofs.PatchLemmas.{applied_alike}
use Rattle.eob_joins.proofs.changes.law_changed_alike.Goals as goal

pub returns : goal.returns
returns g c = applied_alike g.V.PartialEq.eq g.met.V.Eq.laws.refl
