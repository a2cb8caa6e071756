use Rattle.eob_joins.specs.Changes.{applied}
use Rattle.eob_joins.proofs.TableLemmas.{kept_join}
use Rattle.eob_joins.proofs.changes.apply.Goals as goal

pub returns-clause-values : goal.returns-clause-values
returns-clause-values g c = kept_join g.K.Ord.cmp g.met.K.Ord.total _ _ _ c.in_ok-rows.rows.items applied c.args.old.items c.args.changes.items c.in_ok-rows.ensures
