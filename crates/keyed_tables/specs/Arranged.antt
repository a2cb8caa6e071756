-- The order in which rows come out, by the keys that were noted.
use Rattle.std.specs.Prelude.{◌≡◌, ℕ, Bool, List, Option, None, Some, option_map, position}
use Rattle.std.specs.List.Sorted.{IsSortedByKey}
use Rattle.std.specs.Option.{option_cmp}
use Rattle.std.specs.Ordering.{nat_cmp}
use Rattle.std.specs.declared.cmp.Ordering.{Ordering}
use Rattle.std.specs.declared.cmp.Ordering.TheVariants.{Equal}
use Rattle.indexmap.specs.IndexSet.{insert_key}
use Rattle.keyed_tables.specs.declared.order.Order.{Order}

-- the keys of the files that are noted, each once, where rows come out in their order
abbrev pub noted : Order → Option (List (List (List ℕ)))
noted order = option_map (λ set. set.keys) order.keys

module _ {K : Type 0} (cmp : K → K → Ordering) (eq : K → K → Bool) where
  -- the keys once one more is noted: they stay if it is among them, and else one that is equal to it goes last
  abbrev pub IsNoted : K → Option (List K) → Option (List K) → Type 0
  IsNoted key None new = new ≡ None
  IsNoted key (Some keys) new = (k : K) × (cmp k key ≡ Equal) × (new ≡ Some (insert_key eq keys k))

module _ {K V : Type 0} (eq : K → K → Bool) where
  -- ys are the rows xs put into the order of the keys that are noted: their places among these do not fall
  abbrev pub AreArranged : Option (List K) → List (K × V) → List (K × V) → Type 0
  AreArranged None xs ys = ys ≡ xs
  AreArranged (Some keys) xs ys = IsSortedByKey (λ row. position (eq row.0) keys) (option_cmp nat_cmp) ys
