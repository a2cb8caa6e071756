use Rattle.eob_both.proofs.AlignedLemmas.{aligned-map}
use Rattle.eob_both.proofs.laws.walks.law_aligned_map.Goals as goal

pub returns : goal.returns
returns g c = aligned-map
