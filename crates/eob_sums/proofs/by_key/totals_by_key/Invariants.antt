use Rattle.std.proofs.Common.{◌≡◌}
use Rattle.std.specs.BTreeMap.{get}
use Rattle.eob_sums.specs.Sums.{total_under}
use Rattle.eob_sums.proofs.by_key.totals_by_key.Given as goal

abbrev pub invariant-loop-row : goal.invariant-loop-row
invariant-loop-row g l = (k : _) → get g.K.Ord.cmp l.totals k ≡ total_under g.K.Ord.cmp l.yielded k
