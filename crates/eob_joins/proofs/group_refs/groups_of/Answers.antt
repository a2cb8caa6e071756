use Rattle.std.proofs.Common.{refl}
use Rattle.eob_joins.proofs.KeySliceLemmas.{AreKeySlices-slices, shows_slices}
use Rattle.eob_joins.proofs.group_refs.groups_of.Goals as goal

pub returns-clause-slices : goal.returns-clause-slices
returns-clause-slices g c = AreKeySlices-slices g.K.Ord.cmp g.met.K.Ord.total c.args.list.now c.requires

pub returns-clause-runs : goal.returns-clause-runs
returns-clause-runs g c p seen from = shows_slices g.K.Ord.cmp g.met.K.Ord.total c.args.list.now c.requires _ refl p from
