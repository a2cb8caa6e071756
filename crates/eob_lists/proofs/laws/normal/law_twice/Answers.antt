use Rattle.eob_lists.proofs.NormalLemmas.{twice_law}
use Rattle.eob_lists.proofs.laws.normal.law_twice.Goals as goal

pub returns : goal.returns
returns g c = twice_law
