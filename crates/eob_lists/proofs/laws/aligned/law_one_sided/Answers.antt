use Rattle.eob_lists.proofs.AlignedLawLemmas.{lefts_alone, rights_alone}
use Rattle.eob_lists.proofs.laws.aligned.law_one_sided.Goals as goal

pub returns : goal.returns
returns g c = record { lefts = lefts_alone g.row.L.Denot g.row.R.Denot; rights = rights_alone g.row.L.Denot g.row.R.Denot }
