use Rattle.eob_sums.proofs.RowLemmas.{kept_rows}
use Rattle.eob_sums.proofs.laws.law_kept_rows.Goals as goal

pub returns-clause-values : goal.returns-clause-values
returns-clause-values g c f table h e = (kept_rows g.K.Ord.cmp g.met.K.Ord.total f table c.args.rows.now h e).values

pub returns-clause-rises : goal.returns-clause-rises
returns-clause-rises g c f table h e = (kept_rows g.K.Ord.cmp g.met.K.Ord.total f table c.args.rows.now h e).rises
