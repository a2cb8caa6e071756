use Rattle.eob_sums.proofs.RowLemmas.{kept_overlaid}
use Rattle.eob_sums.proofs.laws.law_kept_overlaid.Goals as goal

pub returns : goal.returns
returns g c p q h k = kept_overlaid g.K.Ord.cmp g.met.K.Ord.total p q c.args.rows.now h k
