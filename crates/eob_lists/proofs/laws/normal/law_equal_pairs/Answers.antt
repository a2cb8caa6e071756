use Rattle.eob_lists.proofs.NormalLemmas.{equal_pairs_law}
use Rattle.eob_lists.proofs.laws.normal.law_equal_pairs.Goals as goal

pub returns : goal.returns
returns g c = equal_pairs_law
