-- Lists of keyed pairs whose keys strictly increase, and their full outer join by key.
use Rattle.std.specs.Prelude.{◌≡◌, ◌⊎◌, ◌↔◌, IsSome, List, [], ◌∷◌, length, Option, Some, None, All, Contains}
use Rattle.std.specs.List.{AllAdjacentBelow}
use Rattle.std.specs.Map.{keys_of, lookup}
use Rattle.std.specs.Ordering.{MatchOrdering, is_eq}
use Rattle.std.specs.declared.cmp.Ordering.{Ordering}
use Rattle.std.specs.declared.cmp.Ordering.TheVariants.{Less}
use Rattle.eob_both.specs.declared.either_or_both.EitherOrBoth.{EitherOrBoth}
use Rattle.eob_both.specs.declared.either_or_both.EitherOrBoth.TheVariants.{Left, Both, Right}
use Rattle.eob_both.specs.Places.{from_places}

module _ {K : Type 0} (cmp : K → K → Ordering) where
  -- each key is less than the next
  unfoldable pub Rising : {V : Type 0} → List (K × V) → Type 0
  Rising xs = AllAdjacentBelow (λ x y. cmp x.0 y.0 ≡ Less) xs (length xs)

  -- the value that a list has under a key, where it has one
  abbrev pub value_under : {V : Type 0} → List (K × V) → K → Option V
  value_under xs k = lookup (λ j. is_eq (cmp k j)) xs

  -- each key of one list is a key of the other
  abbrev pub SameKeys : {A B : Type 0} → List (K × A) → List (K × B) → Type 0
  SameKeys p q = (k : K) → IsSome (value_under p k) ↔ IsSome (value_under q k)

  -- the keys of zs strictly increase; what zs has under a key has as its left place what p has under it, and as its right place what q has;
  -- and each key of zs is one of p or of q
  pub record IsJoin {A B : Type 0} (p : List (K × A)) (q : List (K × B))
      (zs : List (K × EitherOrBoth A B)) : Type 0 where
    pub rises : Rising zs
    pub values : (k : K) → value_under zs k ≡ from_places (value_under p k) (value_under q k)
    pub keys : All (λ z. Contains (keys_of p) z.0 ⊎ Contains (keys_of q) z.0) zs

  -- what a join takes of two lists, and what it leaves of them: the first pair of the one whose first key is less, or both first
  -- pairs where their keys are equal
  abbrev pub JoinTakes : {A B : Type 0} → List (K × A) → List (K × B) → Option (K × EitherOrBoth A B)
      → List (K × A) → List (K × B) → Type 0
  JoinTakes [] [] r p q = (r ≡ None) × (p ≡ []) × (q ≡ [])
  JoinTakes (x ∷ xs) [] r p q = (r ≡ Some (x.0, Left x.1)) × (p ≡ xs) × (q ≡ [])
  JoinTakes [] (y ∷ ys) r p q = (r ≡ Some (y.0, Right y.1)) × (p ≡ []) × (q ≡ ys)
  JoinTakes (x ∷ xs) (y ∷ ys) r p q =
      MatchOrdering (cmp x.0 y.0)
      ((r ≡ Some (x.0, Left x.1)) × (p ≡ xs) × (q ≡ y ∷ ys))
      ((r ≡ Some (x.0, Both x.1 y.1)) × (p ≡ xs) × (q ≡ ys))
      ((r ≡ Some (y.0, Right y.1)) × (p ≡ x ∷ xs) × (q ≡ ys))
