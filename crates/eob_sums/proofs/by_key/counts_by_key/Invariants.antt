use Rattle.std.proofs.Common.{◌≡◌, length, option_map}
use Rattle.std.specs.BTreeMap.{get}
use Rattle.eob_joins.specs.Groups.{group_under}
use Rattle.eob_sums.proofs.by_key.counts_by_key.Given as goal

abbrev pub invariant-loop-row : goal.invariant-loop-row
invariant-loop-row g l = (k : _) → get g.K.Ord.cmp l.counts k ≡ option_map length (group_under g.K.Ord.cmp l.yielded k)
