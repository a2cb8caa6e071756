use Rattle.eob_lists.proofs.NormalLemmas.{unchanged_law}
use Rattle.eob_lists.proofs.laws.normal.law_unchanged.Goals as goal

pub returns : goal.returns
returns g c = unchanged_law
