use Rattle.std.proofs.Common.{◌≡◌, ◌++◌, length, map}
use Rattle.eob_joins.specs.Groups.{key_runs, shown_group}
use Rattle.eob_joins.proofs.groups.group_by_key.Given as goal

abbrev pub invariant-groups : goal.invariant-groups
invariant-groups g l = map shown_group l.groups.items ++ key_runs g.K.Ord.cmp l.list.items ≡ key_runs g.K.Ord.cmp l.fn.list.items

abbrev pub decreases-groups : goal.decreases-groups
decreases-groups g l = length l.list.items
