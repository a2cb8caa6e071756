use Rattle.eob_lists.proofs.AlignedLawLemmas.{aligned_self}
use Rattle.eob_lists.proofs.laws.aligned.law_aligned_self.Goals as goal

pub returns : goal.returns
returns g c = aligned_self g.row.T.Denot
