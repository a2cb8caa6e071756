use Rattle.std.proofs.Common.{◌≡◌, ◌∷◌, ◌++◌, length}
use Rattle.eob_joins.specs.Groups.{run_rest, run_values}
use Rattle.eob_joins.proofs.groups.take_group.Given as goal

abbrev pub invariant-group : goal.invariant-group
invariant-group g l = (l.group.items ++ run_values g.K.Ord.cmp l.key l.list.items ≡ l.fn.first ∷ run_values g.K.Ord.cmp l.key l.initial.list.items) × (run_rest g.K.Ord.cmp l.key l.list.items ≡ run_rest g.K.Ord.cmp l.key l.initial.list.items)

abbrev pub decreases-group : goal.decreases-group
decreases-group g l = length l.list.items
