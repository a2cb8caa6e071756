use Rattle.std.proofs.Common.{◌≡◌, map}
use Rattle.eob_joins.specs.Layers.{from_layer}
use Rattle.eob_joins.proofs.layers.rows_in_layer.Given as goal

abbrev pub invariant-loop-entry : goal.invariant-loop-entry
invariant-loop-entry g l = l.rows.items ≡ map (from_layer l.layer) l.yielded
