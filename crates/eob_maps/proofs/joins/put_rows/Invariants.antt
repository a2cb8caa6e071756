use Rattle.std.proofs.Common.{◌≡◌}
use Rattle.std.specs.BTreeMap.{get}
use Rattle.std.specs.Map.{update_all}
use Rattle.std.specs.Ordering.{eq_by_cmp}
use Rattle.eob_maps.proofs.joins.put_rows.Given as goal

abbrev pub invariant-loop-row : goal.invariant-loop-row
invariant-loop-row g l = (k : _) → get g.K.Ord.cmp l.map k ≡ update_all (eq_by_cmp g.K.Ord.cmp) (get g.K.Ord.cmp l.fn.base) l.yielded k
