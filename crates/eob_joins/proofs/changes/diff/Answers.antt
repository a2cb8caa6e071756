use Rattle.eob_joins.specs.Changes.{changed}
use Rattle.eob_joins.proofs.TableLemmas.{kept_join}
use Rattle.eob_joins.proofs.changes.diff.Goals as goal

pub returns-clause-values : goal.returns-clause-values
returns-clause-values g c = kept_join g.K.Ord.cmp g.met.K.Ord.total _ _ _ c.in_ok-rows.rows.items (changed g.V.PartialEq.eq) c.args.old.items c.args.new.items c.in_ok-rows.ensures
