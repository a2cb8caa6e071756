use Rattle.eob_joins.proofs.LayerLemmas.{laid_over}
use Rattle.eob_joins.proofs.layers.lay_over.Goals as goal

pub returns : goal.returns
returns g c = laid_over g.K.Ord.cmp g.met.K.Ord.total c.args.layer c.args.map.entries c.args.rows.items c.in_ok-over.over.items c.in_ok-all.all.items c.in_ok-over.ensures.rows c.in_ok-all.ensures
