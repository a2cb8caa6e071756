-- The aligned list with its sides exchanged, of a list with itself, and of three lists.
use Rattle.std.proofs.Common.{◌≡◌, ◌∙◌, List, [], ◌∷◌, map, refl, sym, ap, ap₂}
use Rattle.eob_both.specs.declared.either_or_both.EitherOrBoth.{EitherOrBoth}
use Rattle.eob_both.specs.declared.either_or_both.EitherOrBoth.TheVariants.{Left, Both, Right}
use Rattle.eob_both.specs.Aligned.{aligned}
use Rattle.eob_both.specs.Sides.{lefts, rights}
use Rattle.eob_both.proofs.AlignedLemmas.{aligned-nil}
use Rattle.eob_lists.specs.JoinLaws.{flipped}
use Rattle.eob_lists.specs.AlignedLaws.{nested_right, AlignedFlipLaw, AlignedSelfLaw, AlignedThreeLaw, LeftsAloneLaw, RightsAloneLaw}

-- a function of what another gives of each item
twice : {X Y Z : Type 0} (f : Y → Z) (g : X → Y) (h : X → Z) → ((x : X) → f (g x) ≡ h x) → (xs : List X) → map f (map g xs) ≡ map h xs
twice f g h e [] = refl
twice f g h e (x ∷ xs) = ap₂ (λ y ys. y ∷ ys) (e x) (twice f g h e xs)

pub aligned_flip : (L R : Type 0) → AlignedFlipLaw L R
aligned_flip L R [] [] = refl
aligned_flip L R [] (y ∷ ys) = sym (twice flipped (λ r. Right r) (λ r. Left r) (λ r. refl) (y ∷ ys))
aligned_flip L R (x ∷ xs) [] = sym (twice flipped (λ l. Left l) (λ l. Right l) (λ l. refl) (x ∷ xs))
aligned_flip L R (x ∷ xs) (y ∷ ys) = ap (λ zs. Both y x ∷ zs) (aligned_flip L R xs ys)

pub aligned_self : (T : Type 0) → AlignedSelfLaw T
aligned_self T [] = refl
aligned_self T (x ∷ xs) = ap (λ zs. Both x x ∷ zs) (aligned_self T xs)

abbrev alone : {X : Type 0} (A : Type 0) → X → EitherOrBoth A X
alone A x = Right x

module _ {A B C : Type 0} where
  -- two lists beside nothing on the left
  last_two : (q : List B) (r : List C) → map (alone A) (aligned q r) ≡ map nested_right (aligned (map (alone A) q) r)
  last_two [] [] = refl
  last_two [] (z ∷ zs) = ap (λ l. Right (Right z) ∷ l) (last_two [] zs)
  last_two (y ∷ ys) [] =
      ap (λ l. Right (Left y) ∷ l)
      (ap (map (alone A)) (sym (aligned-nil {B = C} ys)) ∙ last_two ys [] ∙ ap (map nested_right) (aligned-nil {B = C} (map (alone A) ys)))
  last_two (y ∷ ys) (z ∷ zs) = ap (λ l. Right (Both y z) ∷ l) (last_two ys zs)

pub aligned_three : (A B C : Type 0) → AlignedThreeLaw A B C
aligned_three A B C [] q r = last_two {A = A} q r
aligned_three A B C (x ∷ xs) [] [] =
    ap (λ l. Left x ∷ l) (sym (twice (λ v. nested_right (Left v)) (λ a. Left a) (λ a. Left a) (λ a. refl) xs) ∙ sym (twice nested_right (λ v. Left v) (λ v. nested_right (Left v)) (λ v. refl) (map (λ a. Left a) xs)))
aligned_three A B C (x ∷ xs) [] (z ∷ zs) = ap (λ l. Both x (Right z) ∷ l) (aligned_three A B C xs [] zs ∙ ap (λ l. map nested_right (aligned l zs)) (aligned-nil {B = B} xs))
aligned_three A B C (x ∷ xs) (y ∷ ys) [] =
    ap (λ l. Both x (Left y) ∷ l) (ap (aligned xs) (sym (aligned-nil {B = C} ys)) ∙ aligned_three A B C xs ys [] ∙ ap (map nested_right) (aligned-nil {B = C} (aligned xs ys)))
aligned_three A B C (x ∷ xs) (y ∷ ys) (z ∷ zs) = ap (λ l. Both x (Both y z) ∷ l) (aligned_three A B C xs ys zs)

same_lefts : (L R : Type 0) (p : List L) → lefts {R = R} (map (λ x. Left x) p) ≡ p
same_lefts L R [] = refl
same_lefts L R (x ∷ xs) = ap (λ l. x ∷ l) (same_lefts L R xs)

no_rights : (L R : Type 0) (p : List L) → rights {R = R} (map (λ x. Left x) p) ≡ []
no_rights L R [] = refl
no_rights L R (x ∷ xs) = no_rights L R xs

same_rights : (L R : Type 0) (q : List R) → rights {L = L} (map (λ y. Right y) q) ≡ q
same_rights L R [] = refl
same_rights L R (y ∷ ys) = ap (λ l. y ∷ l) (same_rights L R ys)

no_lefts : (L R : Type 0) (q : List R) → lefts {L = L} (map (λ y. Right y) q) ≡ []
no_lefts L R [] = refl
no_lefts L R (y ∷ ys) = no_lefts L R ys

pub lefts_alone : (L R : Type 0) → LeftsAloneLaw L R
lefts_alone L R p = (same_lefts L R p, no_rights L R p)

pub rights_alone : (L R : Type 0) → RightsAloneLaw L R
rights_alone L R q = (same_rights L R q, no_lefts L R q)
