use Rattle.eob_both.proofs.AlignedLemmas.{aligned_by_index}
use Rattle.eob_both.proofs.laws.walks.law_aligned_by_index.Goals as goal

pub returns : goal.returns
returns g c = aligned_by_index
