-- Elements in order have one order: two lists of the same ones are the same.
use Rattle.std.proofs.Common.{◌≡◌, ◌∙◌, ◌+◌, ◌<◌, ◌≤◌, ℕ, suc, zero, Bool, true, false, cond, List, [], ◌∷◌, add-one, get_or, length, sum_by, refl, sym, ap, ap₂, subst, arith}
use Rattle.std.specs.Cmp.{IsTotalOrder}
use Rattle.std.specs.FinMap.{nat_cmp-IsAntisymmetric, slice_cmp-IsAntisymmetric}
use Rattle.std.specs.List.Sorted.{IsPermutation, IsSorted}
use Rattle.std.specs.Ordering.{is_lt, ordering_reverse}
use Rattle.std.specs.declared.cmp.Ordering.{Ordering}
use Rattle.std.specs.declared.cmp.Ordering.TheVariants.{Less, Equal, Greater}
use Rattle.std.proofs.lemmas.Cmp.{lists_total, nat_list_cmp_total}
use Rattle.std.proofs.lemmas.List.Sorted.{ranks_by, sorted_far, sum_by-IsPermutation}
use Rattle.std.proofs.lemmas.List.Sums.{sum_by-cons}
use Rattle.keyed_cut.specs.Partitioned.{key_cmp}

module _ {K : Type 0} (cmp : K → K → Ordering) (total : IsTotalOrder cmp) (ties : (x y : K) → cmp x y ≡ Equal → x ≡ y) where
  abbrev below : K → K → Bool
  below x y = is_lt (cmp x y)

  none-below : (f : K → ℕ) (xs : List K) (d : K) → ((j : ℕ) → j < length xs → f (get_or xs j d) ≡ 0) → sum_by f xs ≡ 0
  none-below f [] d h = refl
  none-below f (x ∷ xs) d h =
      let here : f x ≡ 0 = h 0 (omega arith) in
      let rest : sum_by f xs ≡ 0 = none-below f xs d (λ j l. h (suc j) (omega arith)) in
      sum_by-cons f x xs ∙ omega arith

  -- no element is below the first
  first-least : (x : K) (xs : List K) → IsSorted cmp (x ∷ xs) → sum_by (λ y. cond (below y x) 1 0) (x ∷ xs) ≡ 0
  first-least x xs up = none-below (λ y. cond (below y x) 1 0) (x ∷ xs) x
      (λ j l. ap (λ b. cond b 1 0) (sorted_far below (ranks_by total (λ y. y)) (x ∷ xs) up 0 j x (omega arith) l))

  rest-sorted : (x : K) (xs : List K) → IsSorted cmp (x ∷ xs) → IsSorted cmp xs
  rest-sorted x xs up = λ k d low high.
      let more : suc k + 1 < length (x ∷ xs) = omega arith in
      rw add-one (rw add-one at (up (suc k) d (omega arith) more))

  not-above : (x y : K) → below y x ≡ false → below x y ≡ false → x ≡ y
  not-above x y a b = ties x y (by (cmp x y) (cmp y x) (total.antisymm y x) a b)
    where
      by : (o p : Ordering) → p ≡ ordering_reverse o → is_lt p ≡ false → is_lt o ≡ false → o ≡ Equal
      by Less p e a b = cc
      by Equal p e a b = refl
      by Greater p e a b = absurd (cc (sym a ∙ ap is_lt e))

  is-none : (b : Bool) (n : ℕ) → cond b 1 0 + n ≡ 0 → b ≡ false
  is-none true n e = absurd (omega (arith, e))
  is-none false n e = refl

  one-least : (x y : K) (ys : List K) → sum_by (λ z. cond (below z x) 1 0) (y ∷ ys) ≡ 0 → below y x ≡ false
  one-least x y ys none = is-none (below y x) (sum_by (λ z. cond (below z x) 1 0) ys) (sym (sum_by-cons (λ z. cond (below z x) 1 0) y ys) ∙ none)

  has-some : (y : K) (ys : List K) → sum_by (λ z. 1) (y ∷ ys) ≡ 0 → ⊥
  has-some y ys none = omega (arith, none, sum_by-cons (λ (z : K). 1) y ys)

  rest-same : (f : K → ℕ) (x y : K) (xs ys : List K) → x ≡ y → sum_by f (y ∷ ys) ≡ sum_by f (x ∷ xs) → sum_by f ys ≡ sum_by f xs
  rest-same f x y xs ys e same = omega (arith, same, ap f e, sum_by-cons f x xs, sum_by-cons f y ys)

  same-sums : (xs ys : List K) → IsSorted cmp xs → IsSorted cmp ys → ((f : K → ℕ) → sum_by f ys ≡ sum_by f xs) → xs ≡ ys
  same-sums [] [] up on same = refl
  same-sums [] (y ∷ ys) up on same = absurd (has-some y ys (same (λ z. 1)))
  same-sums (x ∷ xs) [] up on same = absurd (has-some x xs (sym (same (λ z. 1))))
  same-sums (x ∷ xs) (y ∷ ys) up on same =
      let first : x ≡ y = not-above x y
      (one-least x y ys (same (λ z. cond (below z x) 1 0) ∙ first-least x xs up))
      (one-least y x xs (sym (same (λ z. cond (below z y) 1 0)) ∙ first-least y ys on)) in
      ap₂ (λ z zs. z ∷ zs) first
      (same-sums xs ys (rest-sorted x xs up) (rest-sorted y ys on) (λ f. rest-same f x y xs ys first (same f)))

  pub sorted-once : (xs ys : List K) → IsSorted cmp xs → IsSorted cmp ys → IsPermutation xs ys → xs ≡ ys
  sorted-once xs ys up on moved = same-sums xs ys up on (λ f. sum_by-IsPermutation f xs ys moved)

-- the same of keys
pub keys-once : (keys others : List (List (List ℕ))) → IsSorted key_cmp keys → IsSorted key_cmp others → IsPermutation keys others → keys ≡ others
keys-once = sorted-once key_cmp (lists_total nat_list_cmp_total) (slice_cmp-IsAntisymmetric (slice_cmp-IsAntisymmetric nat_cmp-IsAntisymmetric))
