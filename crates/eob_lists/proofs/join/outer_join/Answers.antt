use Rattle.eob_lists.proofs.JoinLemmas.{join_both, join_counts}
use Rattle.eob_lists.proofs.MergeLemmas.{join_grows, join_made}
use Rattle.eob_lists.proofs.join.outer_join.Goals as goal

pub loop-item-preserved : goal.loop-item-preserved
loop-item-preserved g c =
    join_grows g.K.Ord.cmp g.met.K.Ord.total c.loop-item.joined.items _ _ c.loop-item.left.items c.loop-item.right.items c.take_first.result c.in-Some.item _ _ c.in-Some.is c.take_first.ensures c.in_ok-push.ensures.items c.loop-item.invariant

pub returns-clause-join : goal.returns-clause-join
returns-clause-join g c =
    join_made g.K.Ord.cmp g.met.K.Ord.total c.args.left.items c.args.right.items c.requires.left c.requires.right c.loop-item.joined.items c.loop-item.left.items c.loop-item.right.items c.take_first.result _ _ c.in_default.not-Some c.take_first.ensures c.loop-item.invariant

pub returns-clause-both : goal.returns-clause-both
returns-clause-both g c same =
    join_both g.K.Ord.cmp g.met.K.Ord.total g.row.A.Denot g.row.B.Denot c.args.left.items c.args.right.items c.loop-item.joined.items same
    (join_made g.K.Ord.cmp g.met.K.Ord.total c.args.left.items c.args.right.items c.requires.left c.requires.right c.loop-item.joined.items c.loop-item.left.items c.loop-item.right.items c.take_first.result _ _ c.in_default.not-Some c.take_first.ensures c.loop-item.invariant)

pub returns-clause-counts : goal.returns-clause-counts
returns-clause-counts g c =
    join_counts g.K.Ord.cmp g.met.K.Ord.total g.row.A.Denot g.row.B.Denot c.args.left.items c.args.right.items c.loop-item.joined.items c.requires.left c.requires.right
    (join_made g.K.Ord.cmp g.met.K.Ord.total c.args.left.items c.args.right.items c.requires.left c.requires.right c.loop-item.joined.items c.loop-item.left.items c.loop-item.right.items c.take_first.result _ _ c.in_default.not-Some c.take_first.ensures c.loop-item.invariant)
