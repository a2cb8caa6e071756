-- What a test keeps of a list where it keeps one thing at most: the same of each order of the list.
use Rattle.std.proofs.Common.{◌≡◌, ◌∙◌, ◌≤◌, Bool, true, false, cond, List, [], ◌∷◌, length, filter, All, IsPermutation, arith, refl, sym, ap₂, true≢false}
use Rattle.std.proofs.lemmas.List.Elements.{All-cons, All-head, All-nil, All-tail}
use Rattle.std.proofs.lemmas.List.Sorted.{All-permutation, sum_by-IsPermutation}
use Rattle.std.proofs.lemmas.List.Sums.{length-filter}

pub by_test : {G : Type 0} (t : Bool) → (t ≡ true → G) → (t ≡ false → G) → G
by_test true f g = f refl
by_test false f g = g refl

module _ {X : Type 0} where
  none_left : (xs : List X) → length xs ≡ 0 → xs ≡ []
  none_left [] e = refl
  none_left (x ∷ xs) e = absurd (cc)

  none_behind : (x : X) (xs : List X) → length (x ∷ xs) ≡ 1 → xs ≡ []
  none_behind x [] e = refl
  none_behind x (y ∷ ys) e = absurd (omega (arith, e))

  same_first : (x y : X) (xs ys : List X) → x ∷ xs ≡ y ∷ ys → x ≡ y
  same_first x y xs ys e = cc

  pub same_rest : (x y : X) (xs ys : List X) → x ∷ xs ≡ y ∷ ys → xs ≡ ys
  same_rest x y xs ys e = cc

module _ {X : Type 0} (p : X → Bool) where
  -- what passes the test is one thing
  abbrev Only : X → X → Type 0
  Only c x = p x ≡ true → x ≡ c

  fails : (c x : X) → p x ≡ false → Only c x
  fails c x f t = absurd (true≢false (sym t ∙ f))

  all_none : (c : X) (xs : List X) → filter p xs ≡ [] → All (Only c) xs
  all_none c [] e = All-nil (Only c)
  all_none c (x ∷ xs) e =
      by_test (p x)
      (λ t. let n : x ∷ filter p xs ≡ [] = rw t at e in absurd (cc))
      (λ f. All-cons (Only c) x xs (fails c x f) (all_none c xs (rw f at e)))

  all_one : (c : X) (xs : List X) → filter p xs ≡ c ∷ [] → All (Only c) xs
  all_one c [] e = absurd (cc)
  all_one c (x ∷ xs) e =
      by_test (p x)
      (λ t.
      let n : x ∷ filter p xs ≡ c ∷ [] = rw t at e in
      All-cons (Only c) x xs (λ s. same_first x c (filter p xs) [] n) (all_none c xs (same_rest x c (filter p xs) [] n)))
      (λ f. All-cons (Only c) x xs (fails c x f) (all_one c xs (rw f at e)))

  one_is : (c : X) (xs : List X) → All (Only c) xs → length (filter p xs) ≡ 1 → filter p xs ≡ c ∷ []
  one_is c [] h e = absurd (omega (arith, e))
  one_is c (x ∷ xs) h e =
      by_test (p x)
      (λ t.
      let n : length (x ∷ filter p xs) ≡ 1 = rw t at e in
      rw t (ap₂ (λ y ys. y ∷ ys) (All-head (Only c) x xs h t) (none_behind x (filter p xs) n)))
      (λ f. rw f (one_is c xs (All-tail (Only c) x xs h) (rw f at e)))

  kept_as : (xs ys : List X) → IsPermutation xs ys → (zs : List X) → filter p xs ≡ zs → length (filter p ys) ≡ length zs → length zs ≤ 1 → filter p ys ≡ zs
  kept_as xs ys s [] e n l = none_left (filter p ys) n
  kept_as xs ys s (c ∷ []) e n l = one_is c ys (All-permutation (Only c) xs ys s (all_one c xs e)) n
  kept_as xs ys s (c ∷ d ∷ zs) e n l = absurd (omega (arith, l))

  pub kept_once : (xs ys : List X) → IsPermutation xs ys → length (filter p xs) ≤ 1 → filter p ys ≡ filter p xs
  kept_once xs ys s l =
      kept_as xs ys s (filter p xs) refl (length-filter p ys ∙ sum_by-IsPermutation (λ x. cond (p x) 1 0) xs ys s ∙ sym (length-filter p xs)) l
