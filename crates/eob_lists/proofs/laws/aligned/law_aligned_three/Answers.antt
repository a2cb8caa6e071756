use Rattle.eob_lists.proofs.AlignedLawLemmas.{aligned_three}
use Rattle.eob_lists.proofs.laws.aligned.law_aligned_three.Goals as goal

pub returns : goal.returns
returns g c = aligned_three g.row.A.Denot g.row.B.Denot g.row.C.Denot
