use Rattle.eob_sums.proofs.RowLemmas.{row_counts}
use Rattle.eob_sums.proofs.laws.law_row_counts.Goals as goal

pub returns : goal.returns
returns g c = row_counts c.args.rows.now
