-- The laws of the aligned list and of regrouping.
use Rattle.std.proofs.Common.{◌≡◌, ℕ, zero, suc, ◌+◌, inl, inr, true, false, List, [], ◌∷◌, map, take, drop, refl, sym, ap, subst, ◌∙◌, arith}
use Rattle.std.proofs.lemmas.List.Elements.{All-nil, All-cons, All-head, All-tail}
use Rattle.std.specs.List.{All, prefix_len}
use Rattle.eob_both.specs.declared.either_or_both.EitherOrBoth.{EitherOrBoth}
use Rattle.eob_both.specs.declared.either_or_both.EitherOrBoth.TheVariants.{Left, Both, Right}
use Rattle.eob_both.proofs.AlignedLemmas.{aligned-nil, aligned_by_index}
use Rattle.eob_both.specs.Aligned.{aligned}
use Rattle.eob_both.specs.Collector.{contents_at}
use Rattle.eob_both.specs.Places.{left_place, right_place}
use Rattle.eob_both.specs.Sides.{lefts, pair_of, rights}
use Rattle.eob_lists.specs.Laws.{AlignedLaw, EqualPairsLaw, TwiceLaw, UnchangedLaw}
use Rattle.eob_lists.specs.Normal.{is_both, is_left, is_right, regrouped, IsNormal, IsOneSided}

one_more : (n : ℕ) → suc n ≡ 1 + n
one_more n = omega arith

-- the two lists of a pair, an absent one empty
abbrev pub left_list : {A B : Type 0} → EitherOrBoth (List A) (List B) → List A
left_list v = contents_at (λ l. l) (left_place v)

abbrev pub right_list : {A B : Type 0} → EitherOrBoth (List A) (List B) → List B
right_list v = contents_at (λ l. l) (right_place v)

pub left_list-pair_of : {A B : Type 0} → (p : List A) (q : List B) → left_list (pair_of p q) ≡ p
left_list-pair_of [] [] = refl
left_list-pair_of (x ∷ p) [] = refl
left_list-pair_of [] (y ∷ q) = refl
left_list-pair_of (x ∷ p) (y ∷ q) = refl

pub right_list-pair_of : {A B : Type 0} → (p : List A) (q : List B) → right_list (pair_of p q) ≡ q
right_list-pair_of [] [] = refl
right_list-pair_of (x ∷ p) [] = refl
right_list-pair_of [] (y ∷ q) = refl
right_list-pair_of (x ∷ p) (y ∷ q) = refl

-- values of one side alone
module _ (L R : Type 0) where
  abbrev on_left : List L → List (EitherOrBoth L R)
  on_left p = map (λ l. Left l) p

  abbrev on_right : List R → List (EitherOrBoth L R)
  on_right q = map (λ r. Right r) q

  lefts-map_left : (p : List L) → lefts (on_left p) ≡ p
  lefts-map_left [] = refl
  lefts-map_left (x ∷ p) = ap (λ l. x ∷ l) (lefts-map_left p)

  lefts-map_right : (q : List R) → lefts (on_right q) ≡ []
  lefts-map_right [] = refl
  lefts-map_right (y ∷ q) = lefts-map_right q

  rights-map_left : (p : List L) → rights (on_left p) ≡ []
  rights-map_left [] = refl
  rights-map_left (x ∷ p) = rights-map_left p

  rights-map_right : (q : List R) → rights (on_right q) ≡ q
  rights-map_right [] = refl
  rights-map_right (y ∷ q) = ap (λ l. y ∷ l) (rights-map_right q)

  lefts_alone : (p : List L) → All (λ x. is_left x ≡ true) (on_left p)
  lefts_alone [] = All-nil (λ (x : EitherOrBoth L R). is_left x ≡ true)
  lefts_alone (x ∷ p) = All-cons (λ x. is_left x ≡ true) (Left x) (on_left p) refl (lefts_alone p)

  rights_alone : (q : List R) → All (λ x. is_right x ≡ true) (on_right q)
  rights_alone [] = All-nil (λ (x : EitherOrBoth L R). is_right x ≡ true)
  rights_alone (y ∷ q) = All-cons (λ x. is_right x ≡ true) (Right y) (on_right q) refl (rights_alone q)

module _ {L R : Type 0} where
  pub lefts-aligned : (p : List L) (q : List R) → lefts (aligned p q) ≡ p
  lefts-aligned [] q = lefts-map_right L R q
  lefts-aligned (x ∷ p) [] = ap (λ l. x ∷ l) (lefts-map_left L R p)
  lefts-aligned (x ∷ p) (y ∷ q) = ap (λ l. x ∷ l) (lefts-aligned p q)

  pub rights-aligned : (p : List L) (q : List R) → rights (aligned p q) ≡ q
  rights-aligned [] q = rights-map_right L R q
  rights-aligned (x ∷ p) [] = rights-map_left L R p
  rights-aligned (x ∷ p) (y ∷ q) = ap (λ l. y ∷ l) (rights-aligned p q)

  pub aligned_law : AlignedLaw L R
  aligned_law = record {
    left = lefts-aligned;
    right = rights-aligned;
    longer = λ p q. (aligned_by_index p q).1;
    places = λ p q. (aligned_by_index p q).0;
  }

  pub equal_pairs_law : EqualPairsLaw L R
  equal_pairs_law = record {
    collected = λ xs ys. (
      λ h. (
        sym (left_list-pair_of (lefts xs) (rights xs)) ∙ ap left_list h ∙ left_list-pair_of (lefts ys) (rights ys),
        sym (right_list-pair_of (lefts xs) (rights xs)) ∙ ap right_list h ∙ right_list-pair_of (lefts ys) (rights ys),
      ),
      λ h. (λ i. pair_of (h.0 i) (h.1 i)),
    );
    regrouped = λ xs ys. (
      λ h. (
        sym (lefts-aligned (lefts xs) (rights xs)) ∙ ap lefts h ∙ lefts-aligned (lefts ys) (rights ys),
        sym (rights-aligned (lefts xs) (rights xs)) ∙ ap rights h ∙ rights-aligned (lefts ys) (rights ys),
      ),
      λ h. (λ i. aligned (h.0 i) (h.1 i)),
    );
  }

  pub twice_law : TwiceLaw L R
  twice_law xs = λ i. aligned (lefts-aligned (lefts xs) (rights xs) i) (rights-aligned (lefts xs) (rights xs) i)

  abbrev OnLeft : EitherOrBoth L R → Type 0
  OnLeft x = is_left x ≡ true

  abbrev OnRight : EitherOrBoth L R → Type 0
  OnRight x = is_right x ≡ true

  abbrev OnBoth : EitherOrBoth L R → Type 0
  OnBoth x = is_both x ≡ true

  IsNormal-aligned : (p : List L) (q : List R) → IsNormal (aligned p q)
  IsNormal-aligned [] [] = (0, omega arith, All-nil OnBoth, inl (All-nil OnLeft))
  IsNormal-aligned (x ∷ p) [] = (0, omega arith, All-nil OnBoth, inl (lefts_alone L R (x ∷ p)))
  IsNormal-aligned [] (y ∷ q) = (0, omega arith, All-nil OnBoth, inr (rights_alone L R (y ∷ q)))
  IsNormal-aligned (x ∷ p) (y ∷ q) =
      let rest = IsNormal-aligned p q in
      (suc rest.0, omega (arith, rest.1), All-cons OnBoth (Both x y) (take rest.0 (aligned p q)) refl rest.2, rest.3)

  all_left : (xs : List (EitherOrBoth L R)) → All (λ x. is_left x ≡ true) xs → (rights xs ≡ []) × (map (λ l. Left l) (lefts xs) ≡ xs)
  all_left [] a = (refl, refl)
  all_left (Left l ∷ xs) a = let rest = all_left xs (All-tail OnLeft (Left l) xs a) in (rest.0, ap (λ ys. Left l ∷ ys) rest.1)
  all_left (Both l r ∷ xs) a = let h : false ≡ true = All-head OnLeft (Both l r) xs a in cc
  all_left (Right r ∷ xs) a = let h : false ≡ true = All-head OnLeft (Right r) xs a in cc

  all_right : (xs : List (EitherOrBoth L R)) → All (λ x. is_right x ≡ true) xs → (lefts xs ≡ []) × (map (λ r. Right r) (rights xs) ≡ xs)
  all_right [] a = (refl, refl)
  all_right (Left l ∷ xs) a = let h : false ≡ true = All-head OnRight (Left l) xs a in cc
  all_right (Both l r ∷ xs) a = let h : false ≡ true = All-head OnRight (Both l r) xs a in cc
  all_right (Right r ∷ xs) a = let rest = all_right xs (All-tail OnRight (Right r) xs a) in (rest.0, ap (λ ys. Right r ∷ ys) rest.1)

  one_sided_stays : (xs : List (EitherOrBoth L R)) → IsOneSided xs → regrouped xs ≡ xs
  one_sided_stays xs (inl a) = let h = all_left xs a in ap (λ q. aligned (lefts xs) q) h.0 ∙ aligned-nil (lefts xs) ∙ h.1
  one_sided_stays xs (inr a) = let h = all_right xs a in ap (λ p. aligned p (rights xs)) h.0 ∙ h.1

  normal_stays : (xs : List (EitherOrBoth L R)) (m : ℕ) → All (λ x. is_both x ≡ true) (take m xs) → IsOneSided (drop m xs) → regrouped xs ≡ xs
  normal_stays [] m b o = refl
  normal_stays (x ∷ xs) zero b o = one_sided_stays (x ∷ xs) o
  normal_stays (Left l ∷ xs) (suc m) b o = let h : false ≡ true = All-head OnBoth (Left l) (take m xs) b in cc
  normal_stays (Both l r ∷ xs) (suc m) b o = ap (λ ys. Both l r ∷ ys) (normal_stays xs m (All-tail OnBoth (Both l r) (take m xs) b) o)
  normal_stays (Right r ∷ xs) (suc m) b o = let h : false ≡ true = All-head OnBoth (Right r) (take m xs) b in cc

  pub unchanged_law : UnchangedLaw L R
  unchanged_law xs = (λ h. subst IsNormal h (IsNormal-aligned (lefts xs) (rights xs)), λ n. normal_stays xs n.0 n.2 n.3)

  -- what a normal list has after its first values that are both is one-sided
  pub one_sided_rest : (xs : List (EitherOrBoth L R)) → IsNormal xs → IsOneSided (drop (prefix_len is_both xs) xs)
  one_sided_rest [] n = inl (All-nil OnLeft)
  one_sided_rest (Left l ∷ xs) (zero, _, b, o) = o
  one_sided_rest (Left l ∷ xs) (suc m, _, b, o) = let h : false ≡ true = All-head OnBoth (Left l) (take m xs) b in cc
  one_sided_rest (Both l r ∷ xs) (zero, _, b, inl a) = let h : false ≡ true = All-head OnLeft (Both l r) xs a in cc
  one_sided_rest (Both l r ∷ xs) (zero, _, b, inr a) = let h : false ≡ true = All-head OnRight (Both l r) xs a in cc
  one_sided_rest (Both l r ∷ xs) (suc m, le, b, o) =
      subst (λ n. IsOneSided (drop n (Both l r ∷ xs))) (one_more (prefix_len is_both xs))
      (one_sided_rest xs (m, omega (arith, le), All-tail OnBoth (Both l r) (take m xs) b, o))
  one_sided_rest (Right r ∷ xs) (zero, _, b, o) = o
  one_sided_rest (Right r ∷ xs) (suc m, _, b, o) = let h : false ≡ true = All-head OnBoth (Right r) (take m xs) b in cc

  -- and a list that has so is normal
  pub normal_from_rest : (xs : List (EitherOrBoth L R)) → IsOneSided (drop (prefix_len is_both xs) xs) → IsNormal xs
  normal_from_rest [] o = (0, omega arith, All-nil OnBoth, o)
  normal_from_rest (Left l ∷ xs) o = (0, omega arith, All-nil OnBoth, o)
  normal_from_rest (Both l r ∷ xs) o =
      let rest = normal_from_rest xs (subst (λ n. IsOneSided (drop n (Both l r ∷ xs))) (sym (one_more (prefix_len is_both xs))) o) in
      (suc rest.0, omega (arith, rest.1), All-cons OnBoth (Both l r) (take rest.0 xs) refl rest.2, rest.3)
  normal_from_rest (Right r ∷ xs) o = (0, omega arith, All-nil OnBoth, o)
