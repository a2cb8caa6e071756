-- The laws of the full outer join.
use Rattle.std.proofs.Common.{◌≡◌, ◌∙◌, ◌⊎◌, ℕ, ◌+◌, suc, Bool, true, false, cond, List, [], ◌∷◌, length, map, All, Contains, is_some, option_map, Option, Some, None, arith, inl, inr, refl, sym, ap, true≢false}
use Rattle.std.specs.Option.{option_or, option_zip}
use Rattle.std.specs.Prelude.{count_by, is_none, ⊤, IsSome, ◌↔◌}
use Rattle.std.proofs.lemmas.List.{length-map}
use Rattle.std.proofs.lemmas.List.Sums.{sum_by-cons}
use Rattle.std.specs.Cmp.{IsTotalOrder, alike_right, tied_back, tied_itself}
use Rattle.std.specs.List.{AllZip}
use Rattle.std.specs.Map.{keys_of, values_of}
use Rattle.std.specs.Ordering.{is_eq, ordering_reverse}
use Rattle.std.specs.declared.cmp.Ordering.{Ordering}
use Rattle.std.specs.declared.cmp.Ordering.TheVariants.{Less, Equal, Greater}
use Rattle.std.proofs.lemmas.List.Elements.{All-nil, All-cons, All-head, All-tail, All-weaker, All-map}
use Rattle.std.proofs.lemmas.Bool.{cases_Bool}
use Rattle.eob_both.specs.declared.either_or_both.EitherOrBoth.{EitherOrBoth}
use Rattle.eob_both.specs.declared.either_or_both.EitherOrBoth.TheVariants.{Left, Both, Right}
use Rattle.eob_both.specs.Places.{from_places, left_place, right_place}
use Rattle.eob_both.specs.Sides.{lefts, rights}
use Rattle.eob_lists.specs.Join.{Rising, IsJoin, value_under}
use Rattle.eob_lists.specs.JoinLaws.{flipped, overlaid, shared_keys, OneJoinLaw, JoinPlacesLaw, JoinSidesLaw, JoinLengthLaw, JoinFlipLaw, JoinBothLaw, JoinCountsLaw}
use Rattle.eob_lists.proofs.MergeLemmas.{Up, absent, absent_alike, alike_on, by_order, flipped_order, merge, place, rising, up, up_weaker, IsJoin-merge}

-- the places of a value are those that it was made from
places_from : {A B : Type 0} (m : Option A) (n : Option B) (v : EitherOrBoth A B) → from_places m n ≡ Some v → (left_place v ≡ m) × (right_place v ≡ n)
places_from (Some a) None v e = let k : Left a ≡ v = cc in rw (← k) (refl, refl)
places_from (Some a) (Some b) v e = let k : Both a b ≡ v = cc in rw (← k) (refl, refl)
places_from None (Some b) v e = let k : Right b ≡ v = cc in rw (← k) (refl, refl)
places_from None None v e = absurd (cc)

places_flipped : {A B : Type 0} (m : Option A) (n : Option B) → option_map flipped (from_places m n) ≡ from_places n m
places_flipped (Some a) None = refl
places_flipped (Some a) (Some b) = refl
places_flipped None (Some b) = refl
places_flipped None None = refl

places_overlaid : {V : Type 0} (m n : Option V) → option_map overlaid (from_places m n) ≡ option_or n m
places_overlaid (Some a) None = refl
places_overlaid (Some a) (Some b) = refl
places_overlaid None (Some b) = refl
places_overlaid None None = refl

-- where each of two places is present if the other is, a value with these places has both
both_present : {A B : Type 0} (m : Option A) (n : Option B) (v : EitherOrBoth A B) → IsSome m ↔ IsSome n → left_place v ≡ m → right_place v ≡ n → IsSome (left_place v) × IsSome (right_place v)
both_present m n (Left a) s e f = absurd (true≢false (sym (s.0 (ap is_some (sym e))) ∙ ap is_some (sym f)))
both_present m n (Both a b) s e f = (refl, refl)
both_present m n (Right b) s e f = absurd (true≢false (sym (s.1 (ap is_some (sym f))) ∙ ap is_some (sym e)))

-- how many values of a list have one place, and how many both
module _ {K A B : Type 0} where
  lone_lefts : (zs : List (K × EitherOrBoth A B)) → count_by (λ (z : K × EitherOrBoth A B). is_none (right_place z.1)) zs + length (rights (values_of zs)) ≡ length zs
  lone_lefts [] = refl
  lone_lefts ((k, Left a) ∷ zs) = omega (arith, lone_lefts zs, sum_by-cons (λ (z : K × EitherOrBoth A B). cond (is_none (right_place z.1)) 1 0) (k, Left a) zs)
  lone_lefts ((k, Both a b) ∷ zs) = omega (arith, lone_lefts zs, sum_by-cons (λ (z : K × EitherOrBoth A B). cond (is_none (right_place z.1)) 1 0) (k, Both a b) zs)
  lone_lefts ((k, Right b) ∷ zs) = omega (arith, lone_lefts zs, sum_by-cons (λ (z : K × EitherOrBoth A B). cond (is_none (right_place z.1)) 1 0) (k, Right b) zs)

  lone_rights : (zs : List (K × EitherOrBoth A B)) → count_by (λ (z : K × EitherOrBoth A B). is_none (left_place z.1)) zs + length (lefts (values_of zs)) ≡ length zs
  lone_rights [] = refl
  lone_rights ((k, Left a) ∷ zs) = omega (arith, lone_rights zs, sum_by-cons (λ (z : K × EitherOrBoth A B). cond (is_none (left_place z.1)) 1 0) (k, Left a) zs)
  lone_rights ((k, Both a b) ∷ zs) = omega (arith, lone_rights zs, sum_by-cons (λ (z : K × EitherOrBoth A B). cond (is_none (left_place z.1)) 1 0) (k, Both a b) zs)
  lone_rights ((k, Right b) ∷ zs) = omega (arith, lone_rights zs, sum_by-cons (λ (z : K × EitherOrBoth A B). cond (is_none (left_place z.1)) 1 0) (k, Right b) zs)

  abbrev has_both : K × EitherOrBoth A B → Bool
  has_both z = is_some (option_zip (left_place z.1) (right_place z.1))

  boths : (zs : List (K × EitherOrBoth A B)) → count_by has_both zs + length zs ≡ length (lefts (values_of zs)) + length (rights (values_of zs))
  boths [] = refl
  boths ((k, Left a) ∷ zs) = omega (arith, boths zs, sum_by-cons (λ z. cond (has_both z) 1 0) (k, Left a) zs)
  boths ((k, Both a b) ∷ zs) = omega (arith, boths zs, sum_by-cons (λ z. cond (has_both z) 1 0) (k, Both a b) zs)
  boths ((k, Right b) ∷ zs) = omega (arith, boths zs, sum_by-cons (λ z. cond (has_both z) 1 0) (k, Right b) zs)

module _ {K : Type 0} (cmp : K → K → Ordering) where
  pub up_map : {V W : Type 0} (f : V → W) (P : K → Type 0) (xs : List (K × V)) → Up cmp P xs → Up cmp P (map (λ x. (x.0, f x.1)) xs)
  up_map f P [] h = tt
  up_map f P (x ∷ xs) h = (h.0, up_map f (λ k. cmp x.0 k ≡ Less) xs h.1)

  if_map : {V W : Type 0} (f : V → W) (t : Bool) (v : V) (o : Option V) (z : Option W) → z ≡ option_map f o → cond t (Some (f v)) z ≡ option_map f (cond t (Some v) o)
  if_map f true v o z e = refl
  if_map f false v o z e = e

  pub value_map : {V W : Type 0} (f : V → W) (k : K) (xs : List (K × V)) → value_under cmp (map (λ x. (x.0, f x.1)) xs) k ≡ option_map f (value_under cmp xs k)
  value_map f k [] = refl
  value_map f k (x ∷ xs) = if_map f (is_eq (cmp k x.0)) x.1 (value_under cmp xs k) _ (value_map f k xs)

  pub join_overlaid : {V : Type 0} (p : List (K × V)) (q : List (K × V)) (zs : List (K × EitherOrBoth V V)) → IsJoin cmp p q zs
      → (k : K) → value_under cmp (map (λ z. (z.0, overlaid z.1)) zs) k ≡ option_or (value_under cmp q k) (value_under cmp p k)
  join_overlaid p q zs h k = value_map overlaid k zs ∙ ap (option_map overlaid) (h.values k) ∙ places_overlaid (value_under cmp p k) (value_under cmp q k)

  module _ (o : IsTotalOrder cmp) where
    greater : (x y : K) → cmp x y ≡ Less → cmp y x ≡ Greater
    greater x y h = o.antisymm y x ∙ ap ordering_reverse h

    -- under its own key each pair of a strictly increasing list has its own value
    own_after : {V : Type 0} (j : K) (v : V) (xs : List (K × V)) → Up cmp (λ k. cmp j k ≡ Less) xs → (whole : List (K × V))
        → All (λ x. value_under cmp whole x.0 ≡ Some x.1) xs → All (λ x. value_under cmp ((j, v) ∷ whole) x.0 ≡ Some x.1) xs
    own_after j v [] h whole own = All-nil (λ x. value_under cmp ((j, v) ∷ whole) x.0 ≡ Some x.1)
    own_after j v (x ∷ xs) h whole own =
        All-cons (λ y. value_under cmp ((j, v) ∷ whole) y.0 ≡ Some y.1) x xs
        (rw (greater j x.0 h.0) (All-head (λ y. value_under cmp whole y.0 ≡ Some y.1) x xs own))
        (own_after j v xs (up_weaker cmp (λ k. cmp x.0 k ≡ Less) (λ k. cmp j k ≡ Less) (λ k l. o.trans j x.0 k h.0 l) xs h.1) whole (All-tail (λ y. value_under cmp whole y.0 ≡ Some y.1) x xs own))

    pub own : {V : Type 0} (P : K → Type 0) (xs : List (K × V)) → Up cmp P xs → All (λ x. value_under cmp xs x.0 ≡ Some x.1) xs
    own P [] h = All-nil (λ x. value_under cmp [] x.0 ≡ Some x.1)
    own P (x ∷ xs) h =
        All-cons (λ y. value_under cmp (x ∷ xs) y.0 ≡ Some y.1) x xs (rw (tied_itself o x.0) refl)
        (own_after x.0 x.1 xs h.1 xs (own (λ k. cmp x.0 k ≡ Less) xs h.1))

    pub own_head : {V : Type 0} (x : K × V) (xs : List (K × V)) → value_under cmp (x ∷ xs) x.0 ≡ Some x.1
    own_head x xs = rw (tied_itself o x.0) refl

    -- what two lists with equal first keys have under a key, they have after those too
    pub same_after : {V : Type 0} (x y : K × V) (xs ys : List (K × V)) → Up cmp (λ k. cmp x.0 k ≡ Less) xs → Up cmp (λ k. cmp y.0 k ≡ Less) ys → cmp x.0 y.0 ≡ Equal
        → (k : K) → value_under cmp (x ∷ xs) k ≡ value_under cmp (y ∷ ys) k → value_under cmp xs k ≡ value_under cmp ys k
    same_after x y xs ys g h l k e =
        let alike : cmp k x.0 ≡ cmp k y.0 = alike_right o x.0 y.0 k l in
        elim (cases_Bool (is_eq (cmp k x.0))) [
          | inl t ↦ absent_alike cmp o k x.0 t xs g ∙ sym (absent_alike cmp o k y.0 (sym (ap is_eq alike) ∙ t) ys h)
          | inr f ↦ rw (← alike, f) at e
        ]

    -- strictly increasing lists with the same values under each key have equal keys and the same values, place by place
    pub same_values : {V : Type 0} (P Q : K → Type 0) (xs ys : List (K × V)) → Up cmp P xs → Up cmp Q ys
        → ((k : K) → value_under cmp xs k ≡ value_under cmp ys k) → AllZip (λ x y. (cmp x.0 y.0 ≡ Equal) × (x.1 ≡ y.1)) xs ys
    same_values P Q [] [] g h e = tt
    same_values P Q [] (y ∷ ys) g h e = let c : None ≡ Some y.1 = e y.0 ∙ own_head y ys in absurd (cc)
    same_values P Q (x ∷ xs) [] g h e = let c : Some x.1 ≡ None = sym (own_head x xs) ∙ e x.0 in absurd (cc)
    same_values P Q (x ∷ xs) (y ∷ ys) g h e =
        by_order (cmp x.0 y.0)
        (λ l. let c : Some x.1 ≡ None = sym (own_head x xs) ∙ e x.0 ∙ absent cmp o x.0 (y ∷ ys) (l, h.1) in absurd (cc))
        (λ l.
        let c : Some x.1 ≡ Some y.1 = sym (own_head x xs) ∙ e x.0 ∙ rw l refl in
        ((l, cc), same_values (λ k. cmp x.0 k ≡ Less) (λ k. cmp y.0 k ≡ Less) xs ys g.1 h.1 (λ k. same_after x y xs ys g.1 h.1 l k (e k))))
        (λ l. let c : Some y.1 ≡ None = sym (own_head y ys) ∙ sym (e y.0) ∙ absent cmp o y.0 (x ∷ xs) (flipped_order cmp o x.0 y.0 l, g.1) in absurd (cc))

    pub one_join : (A B : Type 0) → OneJoinLaw cmp A B
    one_join A B p q ys zs g h = same_values (λ k. ⊤) (λ k. ⊤) ys zs (up cmp ys g.rises) (up cmp zs h.rises) (λ k. g.values k ∙ sym (h.values k))

    pub join_places : (A B : Type 0) → JoinPlacesLaw cmp A B
    join_places A B p q zs h =
        All-weaker (λ z. value_under cmp zs z.0 ≡ Some z.1) (λ z. (left_place z.1 ≡ value_under cmp p z.0) × (right_place z.1 ≡ value_under cmp q z.0))
        (λ z e. places_from (value_under cmp p z.0) (value_under cmp q z.0) z.1 (sym (h.values z.0) ∙ e)) zs (own (λ k. ⊤) zs (up cmp zs h.rises))

    pub join_flip : (A B : Type 0) → JoinFlipLaw cmp A B
    join_flip A B p q zs h = record {
      rises = rising cmp (λ k. ⊤) (map (λ z. (z.0, flipped z.1)) zs) (up_map flipped (λ k. ⊤) zs (up cmp zs h.rises));
      values = λ k. value_map flipped k zs ∙ ap (option_map flipped) (h.values k) ∙ places_flipped (value_under cmp p k) (value_under cmp q k);
      keys = All-map (λ z. Contains (keys_of q) z.0 ⊎ Contains (keys_of p) z.0) (λ z. (z.0, flipped z.1)) zs
          (All-weaker (λ z. Contains (keys_of p) z.0 ⊎ Contains (keys_of q) z.0) (λ z. Contains (keys_of q) z.0 ⊎ Contains (keys_of p) z.0) (λ z e. elim e [ inl a ↦ inr a | inr b ↦ inl b ]) zs h.keys);
    }

    same_list : {V : Type 0} (xs ys : List (K × V)) → AllZip (λ x y. (cmp x.0 y.0 ≡ Equal) × (x.1 ≡ y.1)) xs ys → values_of xs ≡ values_of ys
    same_list [] [] h = refl
    same_list [] (y ∷ ys) h = absurd h
    same_list (x ∷ xs) [] h = absurd h
    same_list (x ∷ xs) (y ∷ ys) h = let e = same_list xs ys h.1 in let f = h.0.1 in cc

    module _ {A B : Type 0} where
      -- the values of every join are those of the list that the loop makes
      values_same : (p : List (K × A)) (q : List (K × B)) (zs : List (K × EitherOrBoth A B)) → Rising cmp p → Rising cmp q → IsJoin cmp p q zs → values_of zs ≡ values_of (merge cmp p q)
      values_same p q zs g h j = same_list zs (merge cmp p q) (one_join A B p q zs (merge cmp p q) j (IsJoin-merge cmp o p q g h))

    module _ (A : Type 0) {B : Type 0} where
      rights_lefts : (ys : List (K × B)) → lefts (values_of (merge cmp {A = A} [] ys)) ≡ []
      rights_lefts [] = refl
      rights_lefts (y ∷ ys) = rights_lefts ys

      rights_rights : (ys : List (K × B)) → rights (values_of (merge cmp {A = A} [] ys)) ≡ values_of ys
      rights_rights [] = refl
      rights_rights (y ∷ ys) = ap (λ zs. y.1 ∷ zs) (rights_rights ys)

    module _ {A B : Type 0} where
      place_lefts : (x : K × A) (xs : List (K × A)) (after : List (K × B) → List (K × EitherOrBoth A B)) → ((ys : List (K × B)) → lefts (values_of (after ys)) ≡ values_of xs)
          → (ys : List (K × B)) → lefts (values_of (place cmp x after ys)) ≡ x.1 ∷ values_of xs
      place_lefts x xs after go [] = ap (λ zs. x.1 ∷ zs) (go [])
      place_lefts x xs after go (y ∷ ys) =
          by_order (cmp x.0 y.0)
          (λ e. rw e (ap (λ zs. x.1 ∷ zs) (go (y ∷ ys))))
          (λ e. rw e (ap (λ zs. x.1 ∷ zs) (go ys)))
          (λ e. rw e (place_lefts x xs after go ys))

      merge_lefts : (xs : List (K × A)) (ys : List (K × B)) → lefts (values_of (merge cmp xs ys)) ≡ values_of xs
      merge_lefts [] ys = rights_lefts A ys
      merge_lefts (x ∷ xs) ys = place_lefts x xs (merge cmp xs) (λ zs. merge_lefts xs zs) ys

      place_rights : (x : K × A) (after : List (K × B) → List (K × EitherOrBoth A B)) → ((ys : List (K × B)) → rights (values_of (after ys)) ≡ values_of ys)
          → (ys : List (K × B)) → rights (values_of (place cmp x after ys)) ≡ values_of ys
      place_rights x after go [] = go []
      place_rights x after go (y ∷ ys) =
          by_order (cmp x.0 y.0)
          (λ e. rw e (go (y ∷ ys)))
          (λ e. rw e (ap (λ zs. y.1 ∷ zs) (go ys)))
          (λ e. rw e (ap (λ zs. y.1 ∷ zs) (place_rights x after go ys)))

      merge_rights : (xs : List (K × A)) (ys : List (K × B)) → rights (values_of (merge cmp xs ys)) ≡ values_of ys
      merge_rights [] ys = rights_rights A ys
      merge_rights (x ∷ xs) ys = place_rights x (merge cmp xs) (λ zs. merge_rights xs zs) ys

    pub join_sides : (A B : Type 0) → JoinSidesLaw cmp A B
    join_sides A B p q zs g h j =
        let e = values_same p q zs g h j in
        (ap lefts e ∙ merge_lefts p q, ap rights e ∙ merge_rights p q)

    -- `shared_keys`, by recursion
    abbrev shared : {A B : Type 0} → List (K × A) → List (K × B) → ℕ
    shared [] ys = 0
    shared (x ∷ xs) ys = cond (is_some (value_under cmp ys x.0)) 1 0 + shared xs ys

    skipped : {A B : Type 0} (y : K × B) (ys : List (K × B)) (xs : List (K × A)) → Up cmp (λ k. cmp y.0 k ≡ Less) xs → shared xs (y ∷ ys) ≡ shared xs ys
    skipped y ys [] h = refl
    skipped y ys (x ∷ xs) h =
        rw (greater y.0 x.0 h.0)
        (ap (λ n. cond (is_some (value_under cmp ys x.0)) 1 0 + n) (skipped y ys xs (up_weaker cmp (λ k. cmp x.0 k ≡ Less) (λ k. cmp y.0 k ≡ Less) (λ k l. o.trans y.0 x.0 k h.0 l) xs h.1)))

    shared_is : {A B : Type 0} (xs : List (K × A)) (ys : List (K × B)) → shared_keys cmp xs ys ≡ shared xs ys
    unfolding shared_keys
    shared_is [] ys = refl
    shared_is (x ∷ xs) ys = sum_by-cons (λ z. cond (is_some (value_under cmp ys z.0)) 1 0) x xs ∙ ap (λ n. cond (is_some (value_under cmp ys x.0)) 1 0 + n) (shared_is xs ys)

    module _ {A B : Type 0} where
      place_length : (x : K × A) (xs : List (K × A)) → Up cmp (λ k. cmp x.0 k ≡ Less) xs → (after : List (K × B) → List (K × EitherOrBoth A B))
          → ((ys : List (K × B)) → Up cmp (λ k. ⊤) ys → length (after ys) + shared xs ys ≡ length xs + length ys)
          → (ys : List (K × B)) → Up cmp (λ k. ⊤) ys → length (place cmp x after ys) + shared (x ∷ xs) ys ≡ suc (length xs) + length ys
      place_length x xs g after go [] h = omega (arith, go [] tt)
      place_length x xs g after go (y ∷ ys) h =
          let rest : Up cmp (λ k. ⊤) ys = up_weaker cmp (λ k. cmp y.0 k ≡ Less) (λ k. ⊤) (λ k l. tt) ys h.1 in
          by_order (cmp x.0 y.0)
          (λ e. rw (absent cmp o x.0 (y ∷ ys) (e, h.1), e) (omega (arith, go (y ∷ ys) h)))
          (λ e. rw e (omega (arith, go ys rest, skipped y ys xs (alike_on cmp o y.0 x.0 (tied_back o x.0 y.0 e) xs g))))
          (λ e. let l : cmp y.0 x.0 ≡ Less = flipped_order cmp o x.0 y.0 e in
          rw e (omega (arith, place_length x xs g after go ys rest, skipped y ys xs (up_weaker cmp (λ k. cmp x.0 k ≡ Less) (λ k. cmp y.0 k ≡ Less) (λ k m. o.trans y.0 x.0 k l m) xs g))))

      merge_length : (P : K → Type 0) (xs : List (K × A)) (ys : List (K × B)) → Up cmp P xs → Up cmp (λ k. ⊤) ys → length (merge cmp xs ys) + shared xs ys ≡ length xs + length ys
      merge_length P [] ys g h = omega (arith, length-map {B = K × EitherOrBoth A B} ys (λ y. (y.0, Right y.1)))
      merge_length P (x ∷ xs) ys g h = place_length x xs g.1 (merge cmp xs) (λ zs k. merge_length (λ j. cmp x.0 j ≡ Less) xs zs g.1 k) ys h

    pub join_length : (A B : Type 0) → JoinLengthLaw cmp A B
    join_length A B p q zs g h j =
        let e : length zs ≡ length (merge cmp p q) = sym (length-map zs (λ z. z.1)) ∙ ap length (values_same p q zs g h j) ∙ length-map (merge cmp p q) (λ z. z.1) in
        omega (arith, e, shared_is p q, merge_length (λ k. ⊤) p q (up cmp p g) (up cmp q h))

    pub join_counts : (A B : Type 0) → JoinCountsLaw cmp A B
    join_counts A B p q zs g h j =
        let sides = join_sides A B p q zs g h j in
        let lefts_all : length (lefts (values_of zs)) ≡ length p = ap length sides.0 ∙ length-map p (λ x. x.1) in
        let rights_all : length (rights (values_of zs)) ≡ length q = ap length sides.1 ∙ length-map q (λ y. y.1) in
        let whole = join_length A B p q zs g h j in
        (omega (arith, lone_lefts zs, rights_all, whole), omega (arith, lone_rights zs, lefts_all, whole), omega (arith, boths zs, lefts_all, rights_all, whole))

    pub join_both : (A B : Type 0) → JoinBothLaw cmp A B
    join_both A B p q zs s j =
        All-weaker (λ z. (left_place z.1 ≡ value_under cmp p z.0) × (right_place z.1 ≡ value_under cmp q z.0)) (λ z. IsSome (left_place z.1) × IsSome (right_place z.1))
        (λ z e. both_present (value_under cmp p z.0) (value_under cmp q z.0) z.1 (s z.0) e.0 e.1) zs (join_places A B p q zs j)
