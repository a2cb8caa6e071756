-- Rows in the order of a value, read from the first one on.
use Rattle.std.proofs.Common.{◌≡◌, ℕ, ◌<◌, ◌≤◌, suc, Bool, true, false, cond, List, [], ◌∷◌, length, get_or, filter, arith}
use Rattle.std.specs.Prelude.{⊤}
use Rattle.std.proofs.lemmas.List.Sorted.{ranks_by, sorted_far}
use Rattle.std.specs.Cmp.{IsTotalOrder}
use Rattle.std.specs.List.Sorted.{IsSortedBy}
use Rattle.std.specs.Ordering.{is_lt}
use Rattle.std.specs.declared.cmp.Ordering.{Ordering}

module _ {X V : Type 0} (value : X → V) (order : V → V → Ordering) where
  -- a row has a lesser value than another
  abbrev pub before : X → X → Bool
  before x y = is_lt (order (value x) (value y))

  -- no value is less than v, and no value of a list less than one before it
  abbrev pub NoneBefore : V → List X → Type 0
  NoneBefore v [] = ⊤
  NoneBefore v (x ∷ xs) = (is_lt (order (value x) v) ≡ false) × NoneBefore v xs

  abbrev pub Climbs : List X → Type 0
  Climbs [] = ⊤
  Climbs (x ∷ xs) = NoneBefore (value x) xs × Climbs xs

  none_before : (x : X) (xs : List X) → ((k : ℕ) → k < length xs → before (get_or xs k x) x ≡ false) → NoneBefore (value x) xs
  none_before x [] h = tt
  none_before x (y ∷ ys) h = (h 0 (omega arith), none_before x ys (λ k p. h (suc k) (omega arith)))

  climbs : (xs : List X) → ((i j : ℕ) (d : X) → i ≤ j → j < length xs → before (get_or xs j d) (get_or xs i d) ≡ false) → Climbs xs
  climbs [] h = tt
  climbs (x ∷ xs) h = (none_before x xs (λ k p. h 0 (suc k) x (omega arith) (omega arith)), climbs xs (λ i j d p q. h (suc i) (suc j) d (omega arith) (omega arith)))

  pub sorted_climbs : IsTotalOrder order → (xs : List X) → IsSortedBy before xs → Climbs xs
  sorted_climbs o xs h = climbs xs (sorted_far before (ranks_by o value) xs h)

  module _ (t : X → Bool) where
    none_if : (v : V) (x : X) (xs : List X) (b : Bool) → is_lt (order (value x) v) ≡ false → NoneBefore v xs → NoneBefore v (cond b (x ∷ xs) xs)
    none_if v x xs true l h = (l, h)
    none_if v x xs false l h = h

    none_kept : (v : V) (xs : List X) → NoneBefore v xs → NoneBefore v (filter t xs)
    none_kept v [] h = tt
    none_kept v (x ∷ xs) h = none_if v x (filter t xs) (t x) h.0 (none_kept v xs h.1)

    climbs_if : (x : X) (xs : List X) (b : Bool) → NoneBefore (value x) xs → Climbs xs → Climbs (cond b (x ∷ xs) xs)
    climbs_if x xs true l h = (l, h)
    climbs_if x xs false l h = h

    -- rows keep their order where some are left out
    pub climbs_kept : (xs : List X) → Climbs xs → Climbs (filter t xs)
    climbs_kept [] h = tt
    climbs_kept (x ∷ xs) h = climbs_if x (filter t xs) (t x) (none_kept (value x) xs h.0) (climbs_kept xs h.1)
