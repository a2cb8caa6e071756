use Rattle.eob_joins.proofs.PatchLemmas.{patched}
use Rattle.eob_joins.proofs.changes.law_patched.Goals as goal

pub returns : goal.returns
returns g c = patched g.K.Ord.cmp g.met.K.Ord.total g.V.PartialEq.eq g.met.V.Eq.laws.refl
