-- Maps laid one over the other, the last one on top.
use Rattle.std.specs.Prelude.{◌≡◌, ℕ, ◌+◌, List, [], ◌∷◌, Option, None, option_map}
use Rattle.std.specs.Option.{option_or}
use Rattle.std.specs.BTreeMap.{BTreeMap}
use Rattle.std.specs.declared.cmp.Ordering.{Ordering}
use Rattle.eob_lists.specs.Join.{value_under}
use Rattle.eob_joins.specs.declared.layers.Layered.{Layered}
use Rattle.eob_joins.specs.Tables.{Tabulates}

-- a value that comes from the layer at place n
abbrev pub layered : {V : Type 0} → ℕ → V → Layered V
layered n v = record { layer = n; value = v }

abbrev pub from_layer : {K V : Type 0} → ℕ → K × V → K × Layered V
from_layer n x = (x.0, layered n x.1)

module _ {K : Type 0} (cmp : K → K → Ordering) where
  -- what the last of the layers that has the key has under it, with that layer's place; the places are counted from n
  abbrev pub topmost : {V : Type 0} → ℕ → List (BTreeMap K V) → K → Option (Layered V)
  topmost n [] k = None
  topmost n (m ∷ ms) k = option_or (topmost (n + 1) ms k) (option_map (layered n) (value_under cmp m.entries k))

  -- a layer's entries over rows: under each key the layer's value, and where it has none what the rows have
  abbrev pub IsLaidOver : {V : Type 0} → ℕ → List (K × V) → List (K × Layered V) → List (K × Layered V) → Type 0
  IsLaidOver n es rs zs = Tabulates cmp zs (λ k. option_or (option_map (layered n) (value_under cmp es k))
      (value_under cmp rs k))
