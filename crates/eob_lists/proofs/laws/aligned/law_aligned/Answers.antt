use Rattle.eob_lists.proofs.NormalLemmas.{aligned_law}
use Rattle.eob_lists.proofs.laws.aligned.law_aligned.Goals as goal

pub returns : goal.returns
returns g c = aligned_law
