use Rattle.std.proofs.Common.{Vec}
use Rattle.eob_joins.proofs.GroupLemmas.{group_join_is}
use Rattle.eob_joins.proofs.groups.group_join.Goals as goal

pub returns : goal.returns
returns g c =
    group_join_is g.K.Ord.cmp (λ (a : Vec g.row.A.Denot g.row.M.Denot). a.items) (λ (b : Vec g.row.B.Denot g.row.M.Denot). b.items) c.args.left.items c.args.right.items
    c.in_ok-left.left.items c.in_ok-right.right.items c.in_ok-rows.rows.items c.in_ok-left.ensures.groups c.in_ok-right.ensures.groups c.in_ok-rows.ensures.join
