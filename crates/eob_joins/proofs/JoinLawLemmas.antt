-- Joins of tables that are cut at a key.
use Rattle.std.proofs.Common.{◌≡◌, ◌∙◌, ◌⊎◌, true, List, [], ◌∷◌, ◌++◌, All, Contains, Option, Some, None, inl, inr, refl, sym, ap₂}
use Rattle.std.specs.Prelude.{⊤}
use Rattle.std.specs.Cmp.{IsTotalOrder}
use Rattle.std.specs.Map.{keys_of}
use Rattle.std.specs.Option.{option_or}
use Rattle.std.specs.Ordering.{is_eq}
use Rattle.std.specs.declared.cmp.Ordering.{Ordering}
use Rattle.std.specs.declared.cmp.Ordering.TheVariants.{Less}
use Rattle.std.proofs.lemmas.List.{map-append}
use Rattle.std.proofs.lemmas.List.Elements.{All-nil, All-cons, All-head, All-tail, All-append, All-contains, All-weaker, Contains-append_left, Contains-append_right}
use Rattle.eob_both.specs.declared.either_or_both.EitherOrBoth.{EitherOrBoth}
use Rattle.eob_both.specs.Places.{from_places}
use Rattle.eob_lists.specs.Join.{IsJoin, value_under}
use Rattle.eob_lists.proofs.MergeLemmas.{Up, is_Equal, rising, up}
use Rattle.eob_joins.specs.Laws.{AreBelow, CutJoinLaw}
use Rattle.eob_joins.proofs.TableLemmas.{by_test}

-- look-ups in one list after another, of which the second has nothing where the first has something
places_or : {A B : Type 0} (m s : Option A) (n t : Option B) → ((a : A) → m ≡ Some a → t ≡ None) → ((b : B) → n ≡ Some b → s ≡ None)
    → option_or (from_places m n) (from_places s t) ≡ from_places (option_or m s) (option_or n t)
places_or None s None t f g = refl
places_or None s (Some b) t f g = rw (g b refl) refl
places_or (Some a) s None t f g = rw (f a refl) refl
places_or (Some a) s (Some b) t f g = refl

module _ {X : Type 0} (P : X → Type 0) where
  all_left : (xs ys : List X) → All P (xs ++ ys) → All P xs
  all_left [] ys h = All-nil P
  all_left (x ∷ xs) ys h = All-cons P x xs (All-head P x (xs ++ ys) h) (all_left xs ys (All-tail P x (xs ++ ys) h))

  all_right : (xs ys : List X) → All P (xs ++ ys) → All P ys
  all_right [] ys h = h
  all_right (x ∷ xs) ys h = all_right xs ys (All-tail P x (xs ++ ys) h)

module _ {K : Type 0} (cmp : K → K → Ordering) where
  pub value_append : {V : Type 0} (xs ys : List (K × V)) (k : K) → value_under cmp (xs ++ ys) k ≡ option_or (value_under cmp xs k) (value_under cmp ys k)
  value_append [] ys k = refl
  value_append (x ∷ xs) ys k = by_test (is_eq (cmp k x.0)) (λ t. rw t refl) (λ f. rw f (value_append xs ys k))

  pub up_append : {V : Type 0} (P : K → Type 0) (xs ys : List (K × V)) → Up cmp P xs → Up cmp P ys → All (λ x. Up cmp (λ k. cmp x.0 k ≡ Less) ys) xs → Up cmp P (xs ++ ys)
  up_append P [] ys g h b = h
  up_append P (x ∷ xs) ys g h b =
      (g.0, up_append (λ k. cmp x.0 k ≡ Less) xs ys g.1 (All-head (λ y. Up cmp (λ k. cmp y.0 k ≡ Less) ys) x xs b) (All-tail (λ y. Up cmp (λ k. cmp y.0 k ≡ Less) ys) x xs b))

  -- a list whose keys are all greater than j strictly increases from j on
  pub up_from : {V : Type 0} (j : K) (ys : List (K × V)) → Up cmp (λ k. ⊤) ys → All (λ y. cmp j y.0 ≡ Less) ys → Up cmp (λ k. cmp j k ≡ Less) ys
  up_from j [] h a = tt
  up_from j (y ∷ ys) h a = (All-head (λ x. cmp j x.0 ≡ Less) y ys a, h.1)

  module _ (o : IsTotalOrder cmp) where
    -- a key of one list has no value in a list whose keys are all greater
    none_above : {V : Type 0} (k j : K) → is_eq (cmp k j) ≡ true → (ys : List (K × V)) → All (λ i. cmp j i ≡ Less) (keys_of ys) → value_under cmp ys k ≡ None
    none_above k j e [] a = refl
    none_above k j e (y ∷ ys) a =
        let l : cmp k y.0 ≡ Less = o.congr k j y.0 (is_Equal (cmp k j) e) ∙ All-head (λ i. cmp j i ≡ Less) y.0 (keys_of ys) a in
        rw l (none_above k j e ys (All-tail (λ i. cmp j i ≡ Less) y.0 (keys_of ys) a))

    found_below : {V W : Type 0} (k : K) (xs : List (K × V)) (ys : List (K × W)) → AreBelow cmp (keys_of xs) (keys_of ys) → (v : V) → value_under cmp xs k ≡ Some v → value_under cmp ys k ≡ None
    found_below k [] ys b v e = absurd (cc)
    found_below k (x ∷ xs) ys b v e =
        by_test (is_eq (cmp k x.0))
        (λ t. none_above k x.0 t ys (All-head (λ j. All (λ i. cmp j i ≡ Less) (keys_of ys)) x.0 (keys_of xs) b))
        (λ f. found_below k xs ys (All-tail (λ j. All (λ i. cmp j i ≡ Less) (keys_of ys)) x.0 (keys_of xs) b) v (rw f at e))

    module _ {A B : Type 0} (p1 p2 : List (K × A)) (q1 q2 : List (K × B)) (b : AreBelow cmp (keys_of p1 ++ keys_of q1) (keys_of p2 ++ keys_of q2)) where
      abbrev Above : K → Type 0
      Above j = All (λ k. cmp j k ≡ Less) (keys_of p2 ++ keys_of q2)

      above : (j : K) → Contains (keys_of p1) j ⊎ Contains (keys_of q1) j → Above j
      above j e = elim e [
        | inl c ↦ All-contains Above (keys_of p1 ++ keys_of q1) j b (Contains-append_left (keys_of p1) (keys_of q1) j c)
        | inr c ↦ All-contains Above (keys_of p1 ++ keys_of q1) j b (Contains-append_right (keys_of p1) (keys_of q1) j c)
      ]

      less : (j k : K) → Above j → Contains (keys_of p2) k ⊎ Contains (keys_of q2) k → cmp j k ≡ Less
      less j k a e = elim e [
        | inl c ↦ All-contains (λ i. cmp j i ≡ Less) (keys_of p2 ++ keys_of q2) k a (Contains-append_left (keys_of p2) (keys_of q2) k c)
        | inr c ↦ All-contains (λ i. cmp j i ≡ Less) (keys_of p2 ++ keys_of q2) k a (Contains-append_right (keys_of p2) (keys_of q2) k c)
      ]

      lefts_below : AreBelow cmp (keys_of p1) (keys_of q2)
      lefts_below = All-weaker Above (λ j. All (λ k. cmp j k ≡ Less) (keys_of q2)) (λ j a. all_right (λ k. cmp j k ≡ Less) (keys_of p2) (keys_of q2) a) (keys_of p1) (all_left Above (keys_of p1) (keys_of q1) b)

      rights_below : AreBelow cmp (keys_of q1) (keys_of p2)
      rights_below = All-weaker Above (λ j. All (λ k. cmp j k ≡ Less) (keys_of p2)) (λ j a. all_left (λ k. cmp j k ≡ Less) (keys_of p2) (keys_of q2) a) (keys_of q1) (all_right Above (keys_of p1) (keys_of q1) b)

      module _ (zs1 zs2 : List (K × EitherOrBoth A B)) (g : IsJoin cmp p1 q1 zs1) (h : IsJoin cmp p2 q2 zs2) where
        abbrev Low : K × EitherOrBoth A B → Type 0
        Low z = Contains (keys_of p1) z.0 ⊎ Contains (keys_of q1) z.0

        abbrev High : K × EitherOrBoth A B → Type 0
        High z = Contains (keys_of p2) z.0 ⊎ Contains (keys_of q2) z.0

        abbrev Whole : K × EitherOrBoth A B → Type 0
        Whole z = Contains (keys_of (p1 ++ p2)) z.0 ⊎ Contains (keys_of (q1 ++ q2)) z.0

        from_low : (z : K × EitherOrBoth A B) → Low z → Whole z
        from_low z e = elim e [
          | inl c ↦ inl (rw map-append (Contains-append_left (keys_of p1) (keys_of p2) z.0 c))
          | inr c ↦ inr (rw map-append (Contains-append_left (keys_of q1) (keys_of q2) z.0 c))
        ]

        from_high : (z : K × EitherOrBoth A B) → High z → Whole z
        from_high z e = elim e [
          | inl c ↦ inl (rw map-append (Contains-append_right (keys_of p1) (keys_of p2) z.0 c))
          | inr c ↦ inr (rw map-append (Contains-append_right (keys_of q1) (keys_of q2) z.0 c))
        ]

        after : (z : K × EitherOrBoth A B) → Low z → Up cmp (λ k. cmp z.0 k ≡ Less) zs2
        after z l = up_from z.0 zs2 (up cmp zs2 h.rises) (All-weaker High (λ y. cmp z.0 y.0 ≡ Less) (λ y c. less z.0 y.0 (above z.0 l) c) zs2 h.keys)

        pub join_cut : IsJoin cmp (p1 ++ p2) (q1 ++ q2) (zs1 ++ zs2)
        join_cut = record {
          rises = rising cmp (λ k. ⊤) (zs1 ++ zs2)
              (up_append (λ k. ⊤) zs1 zs2 (up cmp zs1 g.rises) (up cmp zs2 h.rises) (All-weaker Low (λ z. Up cmp (λ k. cmp z.0 k ≡ Less) zs2) after zs1 g.keys));
          values = λ k.
              value_append zs1 zs2 k ∙ ap₂ option_or (g.values k) (h.values k)
              ∙ places_or (value_under cmp p1 k) (value_under cmp p2 k) (value_under cmp q1 k) (value_under cmp q2 k) (found_below k p1 q2 lefts_below) (found_below k q1 p2 rights_below)
              ∙ sym (ap₂ from_places (value_append p1 p2 k) (value_append q1 q2 k));
          keys = All-append Whole zs1 zs2 (All-weaker Low Whole from_low zs1 g.keys) (All-weaker High Whole from_high zs2 h.keys);
        }

  pub cut_join : IsTotalOrder cmp → (A B : Type 0) → CutJoinLaw cmp A B
  cut_join o A B p1 p2 q1 q2 zs1 zs2 b g h = join_cut o p1 p2 q1 q2 b zs1 zs2 g h
