-- The numbers of a join add up.
use Rattle.std.proofs.Common.{◌≡◌, ◌∙◌, ℕ, ◌+◌, List, [], ◌∷◌, Some, refl, sym, ap, ap₂, arith}
use Rattle.std.specs.Prelude.{sum_by}
use Rattle.std.specs.Cmp.{IsTotalOrder}
use Rattle.std.specs.Map.{values_of}
use Rattle.std.specs.declared.cmp.Ordering.{Ordering}
use Rattle.std.proofs.lemmas.List.Sums.{sum_by-cons}
use Rattle.eob_both.specs.declared.either_or_both.EitherOrBoth.{EitherOrBoth}
use Rattle.eob_both.specs.declared.either_or_both.EitherOrBoth.TheVariants.{Left, Both, Right}
use Rattle.eob_both.specs.Sides.{lefts, rights}
use Rattle.eob_lists.proofs.JoinLemmas.{join_sides}
use Rattle.eob_joins.specs.Laws.{JoinSumByLaw, JoinSumLaw, KeptSumLaw, added, added_by}
use Rattle.eob_joins.specs.Tables.{kept}

sum_of_values : {K V : Type 0} (f : V → ℕ) (xs : List (K × V)) → sum_by (λ x. f x.1) xs ≡ sum_by f (values_of xs)
sum_of_values f [] = refl
sum_of_values f (x ∷ xs) = sum_by-cons (λ y. f y.1) x xs ∙ ap (λ n. f x.1 + n) (sum_of_values f xs) ∙ sym (sum_by-cons f x.1 (values_of xs))

add_left : (s r a l m n : ℕ) → s ≡ a + r → r ≡ l + m → n ≡ a + l → s ≡ n + m
add_left s r a l m n e f g = omega arith

add_both : (s r a b l m n o : ℕ) → s ≡ (a + b) + r → r ≡ l + m → n ≡ a + l → o ≡ b + m → s ≡ n + o
add_both s r a b l m n o e f g h = omega arith

add_right : (s r b l m o : ℕ) → s ≡ b + r → r ≡ l + m → o ≡ b + m → s ≡ l + o
add_right s r b l m o e f g = omega arith

module _ {K A B : Type 0} (f : A → ℕ) (g : B → ℕ) where
  sum_of_join : (zs : List (K × EitherOrBoth A B)) → sum_by (λ z. added_by f g z.1) zs
      ≡ sum_by f (lefts (values_of zs)) + sum_by g (rights (values_of zs))
  sum_of_join [] = refl
  sum_of_join ((k, Left a) ∷ zs) = add_left _ _ _ _ _ _ (sum_by-cons (λ z. added_by f g z.1) (k, Left a) zs)
      (sum_of_join zs) (sum_by-cons f a (lefts (values_of zs)))
  sum_of_join ((k, Both a b) ∷ zs) = add_both _ _ (f a) (g b) _ _ _ _ (sum_by-cons (λ z. added_by f g z.1) (k, Both a b) zs)
      (sum_of_join zs) (sum_by-cons f a (lefts (values_of zs))) (sum_by-cons g b (rights (values_of zs)))
  sum_of_join ((k, Right b) ∷ zs) = add_right _ _ _ _ _ _ (sum_by-cons (λ z. added_by f g z.1) (k, Right b) zs)
      (sum_of_join zs) (sum_by-cons g b (rights (values_of zs)))

added_is : (v : EitherOrBoth ℕ ℕ) → added v ≡ added_by (λ n. n) (λ n. n) v
added_is (Left a) = refl
added_is (Both a b) = refl
added_is (Right b) = refl

sum_added : {K : Type 0} (zs : List (K × EitherOrBoth ℕ ℕ)) → sum_by (λ z. added z.1) zs ≡ sum_by (λ z. added_by (λ n. n) (λ n. n) z.1) zs
sum_added [] = refl
sum_added (z ∷ zs) = sum_by-cons (λ y. added y.1) z zs ∙ ap₂ (λ m n. m + n) (added_is z.1) (sum_added zs) ∙ sym (sum_by-cons (λ y. added_by (λ n. n) (λ n. n) y.1) z zs)

sum_kept : {K : Type 0} (zs : List (K × EitherOrBoth ℕ ℕ)) → sum_by (λ z. z.1) (kept (λ v. Some (added v)) zs) ≡ sum_by (λ z. added z.1) zs
sum_kept [] = refl
sum_kept (z ∷ zs) = sum_by-cons (λ y. y.1) (z.0, added z.1) (kept (λ v. Some (added v)) zs) ∙ ap (λ n. added z.1 + n) (sum_kept zs) ∙ sym (sum_by-cons (λ y. added y.1) z zs)

module _ {K : Type 0} (cmp : K → K → Ordering) (o : IsTotalOrder cmp) where
  pub sum_by_law : (A B : Type 0) → JoinSumByLaw cmp A B
  sum_by_law A B f g p q zs up_p up_q j =
      let s = join_sides cmp o A B p q zs up_p up_q j in
      sum_of_join f g zs ∙ ap₂ (λ m n. m + n) (ap (sum_by f) s.0 ∙ sym (sum_of_values f p)) (ap (sum_by g) s.1 ∙ sym (sum_of_values g q))

  pub sum_law : JoinSumLaw cmp
  sum_law p q zs up_p up_q j = sum_added zs ∙ sum_by_law ℕ ℕ (λ n. n) (λ n. n) p q zs up_p up_q j

  pub kept_sum_law : KeptSumLaw cmp
  kept_sum_law p q rows up_p up_q made =
      ap (λ l. sum_by (λ z. z.1) l) made.2 ∙ sum_kept made.0 ∙ sum_law p q made.0 up_p up_q made.1
