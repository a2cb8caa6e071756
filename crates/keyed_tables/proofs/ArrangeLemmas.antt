-- Where rows come out in the order of the files, what is said of the keys that are noted.
use Rattle.std.proofs.Common.{◌≡◌, ℕ, Bool, List, Option, Some, nat_eq, position}
use Rattle.std.specs.Cmp.Lexicographic.{pointwise}
use Rattle.std.specs.List.Sorted.{IsSortedByKey}
use Rattle.std.specs.Option.{option_cmp}
use Rattle.std.specs.Ordering.{nat_cmp}
use Rattle.std.specs.declared.cmp.Ordering.{Ordering}
use Rattle.std.specs.declared.cmp.Ordering.TheVariants.{Equal}
use Rattle.indexmap.specs.IndexSet.{insert_key}
use Rattle.keyed_tables.specs.Arranged.{AreArranged, IsNoted}

abbrev pub key_eq : List (List ℕ) → List (List ℕ) → Bool
key_eq = pointwise (pointwise nat_eq)

module _ {K : Type 0} (cmp : K → K → Ordering) (eq : K → K → Bool) where
  pub one_noted : (key k : K) (keys : List K) (old new : Option (List K)) → old ≡ Some keys → cmp k key ≡ Equal → new ≡ Some (insert_key eq keys k) → IsNoted cmp eq key old new
  one_noted key k keys old new e t n = rw e (k, t, n)

module _ {K V : Type 0} (eq : K → K → Bool) where
  pub arranged : (keys : List K) (old : Option (List K)) (xs ys : List (K × V)) → old ≡ Some keys → IsSortedByKey (λ row. position (eq row.0) keys) (option_cmp nat_cmp) ys → AreArranged eq old xs ys
  arranged keys old xs ys e h = rw e h
