use Rattle.eob_lists.proofs.AlignedLawLemmas.{aligned_flip}
use Rattle.eob_lists.proofs.laws.aligned.law_aligned_flip.Goals as goal

pub returns : goal.returns
returns g c = aligned_flip g.row.L.Denot g.row.R.Denot
