-- Two lists in order that hold the same values are one list.
use Rattle.std.proofs.Common.{◌≡◌, ◌∙◌, ◌+◌, ℕ, Bool, true, false, cond, List, [], ◌∷◌, filter, arith, refl, sym, ap, ap₂, subst, true≢false}
use Rattle.std.specs.Cmp.{IsTotalOrder, tied_itself}
use Rattle.std.specs.List.{sum_by}
use Rattle.std.specs.List.Sorted.{IsPermutation}
use Rattle.std.specs.Map.{values_of}
use Rattle.std.specs.Ordering.{is_eq, is_lt, ordering_reverse}
use Rattle.std.specs.declared.cmp.Ordering.{Ordering}
use Rattle.std.specs.declared.cmp.Ordering.TheVariants.{Less, Equal, Greater}
use Rattle.std.proofs.lemmas.List.Sorted.{sum_by-IsPermutation}
use Rattle.std.proofs.lemmas.List.Sums.{sum_by-cons}
use Rattle.keyed_tables.proofs.ClimbLemmas.{Climbs, NoneBefore}

by_test : {G : Type 0} (t : Bool) → (t ≡ true → G) → (t ≡ false → G) → G
by_test true f g = f refl
by_test false f g = g refl

by_order : {G : Type 0} (r : Ordering) → (r ≡ Less → G) → (r ≡ Equal → G) → (r ≡ Greater → G) → G
by_order Less f g h = f refl
by_order Equal f g h = g refl
by_order Greater f g h = h refl

is_equal : (r : Ordering) → is_eq r ≡ true → r ≡ Equal
is_equal Less e = absurd (true≢false (sym e))
is_equal Equal e = refl
is_equal Greater e = absurd (true≢false (sym e))

turned : (r s : Ordering) → r ≡ Greater → r ≡ ordering_reverse s → s ≡ Less
turned r Less e f = refl
turned r Equal e f = absurd (cc)
turned r Greater e f = absurd (cc)

module _ {V : Type 0} (order : V → V → Ordering) (o : IsTotalOrder order) where
  -- how often a value is in a list
  abbrev pub times : V → List V → ℕ
  times v [] = 0
  times v (x ∷ xs) = cond (is_eq (order v x)) 1 0 + times v xs

  not_here : (v x y : V) → order v x ≡ Less → is_lt (order y x) ≡ false → is_eq (order v y) ≡ true → ⊥
  not_here v x y l n e =
      let below : order y x ≡ Less = sym (o.congr v y x (is_equal (order v y) e)) ∙ l in
      true≢false (ap is_lt (sym below) ∙ n)

  none_later : (v x : V) (xs : List V) → order v x ≡ Less → NoneBefore (λ y. y) order x xs → times v xs ≡ 0
  none_later v x [] l h = refl
  none_later v x (y ∷ ys) l h = by_test (is_eq (order v y)) (λ t. absurd (not_here v x y l h.0 t)) (λ f. rw f (omega (arith, none_later v x ys l h.1)))

  none_there : (v x : V) (xs : List V) → order v x ≡ Less → NoneBefore (λ y. y) order x xs → times v (x ∷ xs) ≡ 0
  none_there v x xs l h = rw l (omega (arith, none_later v x xs l h))

  own : (x : V) (xs : List V) → times x (x ∷ xs) ≡ 1 + times x xs
  own x xs = rw (tied_itself o x) refl

  cancel : (n a b : ℕ) → n + a ≡ n + b → a ≡ b
  cancel n a b e = omega (arith, e)

  module _ (exact : (v w : V) → order v w ≡ Equal → v ≡ w) where
    pub same_in_order : (xs ys : List V) → Climbs (λ x. x) order xs → Climbs (λ x. x) order ys → ((v : V) → times v xs ≡ times v ys) → xs ≡ ys
    same_in_order [] [] g h e = refl
    same_in_order [] (y ∷ ys) g h e = let n : 0 ≡ 1 + times y ys = e y ∙ own y ys in absurd (omega (arith, n))
    same_in_order (x ∷ xs) [] g h e = let n : 0 ≡ 1 + times x xs = sym (e x) ∙ own x xs in absurd (omega (arith, n))
    same_in_order (x ∷ xs) (y ∷ ys) g h e =
        by_order (order x y)
        (λ l. let n : 0 ≡ 1 + times x xs = sym (none_there x y ys l h.0) ∙ sym (e x) ∙ own x xs in absurd (omega (arith, n)))
        (λ l.
        let is : x ≡ y = exact x y l in
        let rest : (v : V) → times v xs ≡ times v ys = λ v. cancel (cond (is_eq (order v y)) 1 0) (times v xs) (times v ys) (subst (λ z. cond (is_eq (order v z)) 1 0 + times v xs ≡ times v (y ∷ ys)) is (e v)) in
        ap₂ (λ z zs. z ∷ zs) is (same_in_order xs ys g.1 h.1 rest))
        (λ l. let n : 0 ≡ 1 + times y ys = sym (none_there y x xs (turned (order x y) (order y x) l (o.antisymm x y)) g.0) ∙ e y ∙ own y ys in absurd (omega (arith, n)))

  module _ {K : Type 0} (cmp : K → K → Ordering) where
    -- the values under a key
    abbrev pub values_at : K → List (K × V) → List V
    values_at k xs = values_of (filter (λ x. is_eq (cmp k x.0)) xs)

    abbrev here : K → V → K × V → ℕ
    here k v x = cond (is_eq (cmp k x.0)) (cond (is_eq (order v x.1)) 1 0) 0

    one_more : (k : K) (v : V) (x : K × V) (xs : List (K × V)) → times v (values_at k (x ∷ xs)) ≡ here k v x + times v (values_at k xs)
    one_more k v x xs = by_test (is_eq (cmp k x.0)) (λ t. rw t refl) (λ f. rw f (omega arith))

    times_are : (k : K) (v : V) (xs : List (K × V)) → times v (values_at k xs) ≡ sum_by (here k v) xs
    times_are k v [] = refl
    times_are k v (x ∷ xs) = one_more k v x xs ∙ ap (λ n. here k v x + n) (times_are k v xs) ∙ sym (sum_by-cons (here k v) x xs)

    -- rows in another order have as many of each under each key
    pub as_often : (k : K) (v : V) (xs ys : List (K × V)) → IsPermutation xs ys → times v (values_at k xs) ≡ times v (values_at k ys)
    as_often k v xs ys moved = times_are k v xs ∙ sym (sum_by-IsPermutation (here k v) xs ys moved) ∙ sym (times_are k v ys)
