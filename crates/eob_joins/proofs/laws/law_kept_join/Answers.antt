use Rattle.eob_joins.proofs.TableLemmas.{kept_join}
use Rattle.eob_joins.proofs.laws.law_kept_join.Goals as goal

pub returns-clause-values : goal.returns-clause-values
returns-clause-values g c f p q zs j e = (kept_join g.K.Ord.cmp g.met.K.Ord.total g.row.A.Denot g.row.B.Denot g.row.W.Denot c.args.rows.now f p q (zs, j, e)).values

pub returns-clause-rises : goal.returns-clause-rises
returns-clause-rises g c =
    let r = c.requires in
    (kept_join g.K.Ord.cmp g.met.K.Ord.total g.row.A.Denot g.row.B.Denot g.row.W.Denot c.args.rows.now r.0 r.1 r.2 r.3).rises
