use Rattle.eob_joins.proofs.TableLemmas as tables
use Rattle.eob_joins.proofs.reads.anti_join.Goals as goal

pub returns-clause-values : goal.returns-clause-values
returns-clause-values g c = tables.anti_join g.K.Ord.cmp g.met.K.Ord.total g.row.A.Denot g.row.B.Denot c.args.left.items c.args.right.items c.in_ok-rows.rows.items c.in_ok-rows.ensures
