use Rattle.std.proofs.Common.{map}
use Rattle.eob_joins.specs.Groups.{shown_row}
use Rattle.eob_joins.proofs.GroupLemmas.{regrouped}
use Rattle.eob_joins.proofs.groups.group_join_unordered.Goals as goal

pub returns : goal.returns
returns g c =
    regrouped g.K.Ord.cmp g.met.K.Ord.total c.args.left.items c.in_ok-left.left.items c.args.right.items c.in_ok-right.right.items (map shown_row c.in_ok-rows.rows.items)
    c.in_ok-left.ensures.same c.in_ok-right.ensures.same c.in_ok-rows.ensures
