use Rattle.eob_joins.proofs.MarkedLemmas.{by_key}
use Rattle.eob_joins.proofs.settle.merge_versions_with.Goals as goal

pub returns : goal.returns
returns g c =
    by_key g.V.PartialEq.eq (g.S.Settle.can c.args.settle.now) (g.S.Settle.gives c.args.settle.now) g.K.Ord.cmp g.met.K.Ord.total
    c.args.base.items c.args.ours.items c.args.theirs.items c.in_ok-merge.merge c.in_ok-merge.ensures
