use Rattle.std.proofs.Common.{◌≡◌, ◌+◌, length}
use Rattle.std.specs.Option.{option_or}
use Rattle.eob_lists.specs.Join.{Rising, value_under}
use Rattle.eob_joins.specs.Layers.{topmost}
use Rattle.eob_joins.proofs.layers.overlay_maps.Given as goal

-- the layers that are still to come, over the rows, are all layers
abbrev pub invariant-layers : goal.invariant-layers
invariant-layers g l = record {
  rises : Rising g.K.Ord.cmp l.rows.items;
  counted : l.layer + length l.layers.items ≡ length l.fn.layers.items;
  values : (k : _) → topmost g.K.Ord.cmp 0 l.fn.layers.items k ≡ option_or (topmost g.K.Ord.cmp l.layer l.layers.items k) (value_under g.K.Ord.cmp l.rows.items k);
}

abbrev pub decreases-layers : goal.decreases-layers
decreases-layers g l = length l.layers.items
