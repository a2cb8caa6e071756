-- A table as the list of its groups: that it strictly increases, what it has under a key, and what the loop of a group join makes of two
-- tables.
use Rattle.std.proofs.Common.{◌≡◌, ◌∙◌, ◌⊎◌, ℕ, ◌+◌, ◌<◌, suc, Bool, true, false, List, [], ◌∷◌, ◌++◌, length, get_or, map, filter, All, Contains, Option, Some, None, option_map, append_assoc, arith, inl, inr, refl, sym, ap, ap₂, true≢false, subst}
use Rattle.std.specs.Prelude.{⊤, IsTrue, ◌↔◌, ◌≤◌, ◌&&◌, not}
use Rattle.std.specs.Cmp.{IsTotalOrder, alike_right}
use Rattle.std.specs.List.{IsAllAdjacentAnswer}
use Rattle.std.specs.List.Sorted.{IsPermutation, IsSortedBy, IsStableBy, ties}
use Rattle.std.proofs.lemmas.List.Sorted.{Contains-permutation, IsPermutation-map, IsPermutation-sym, length_permutation}
use Rattle.std.specs.Map.{keys_of, values_of}
use Rattle.std.specs.Ordering.{is_eq, is_lt, ordering_reverse}
use Rattle.std.specs.declared.cmp.Ordering.{Ordering}
use Rattle.std.specs.declared.cmp.Ordering.TheVariants.{Less, Equal, Greater}
use Rattle.std.proofs.lemmas.List.Elements.{All-nil, All-cons, All-head, All-tail, All-contains, All-map, All-weaker, Contains-get_or, filter_agree}
use Rattle.std.proofs.lemmas.List.{length-map, map-append}
use Rattle.std.proofs.Math.ListN.{get_or-map}
use Rattle.eob_both.specs.declared.either_or_both.EitherOrBoth.{EitherOrBoth}
use Rattle.eob_both.specs.Places.{from_places, map_places}
use Rattle.eob_lists.specs.Join.{Rising, IsJoin, value_under}
use Rattle.eob_lists.proofs.MergeLemmas.{Up, absent_alike, alike_on, is_Equal, rising, up}
use Rattle.eob_joins.specs.Groups.{AreGroups, HasGroupsOf, Ordered, OrderedLaw, IsGroupJoin, add_pair, group_under, key_runs, some_items, run_values, run_rest}

by_test : {G : Type 0} (t : Bool) → (t ≡ true → G) → (t ≡ false → G) → G
by_test true f g = f refl
by_test false f g = g refl

-- where neither is less nor equal, the first is less
only_Less : (r s : Ordering) → r ≡ ordering_reverse s → is_lt s ≡ false → is_eq r ≡ false → r ≡ Less
only_Less Less s e l n = refl
only_Less Equal s e l n = absurd (true≢false n)
only_Less Greater Less e l n = absurd (true≢false l)
only_Less Greater Equal e l n = absurd (cc)
only_Less Greater Greater e l n = absurd (cc)

some_back : {V : Type 0} (vs ws : List V) → some_items vs ≡ Some ws → vs ≡ ws
some_back [] ws e = absurd (cc)
some_back (v ∷ vs) ws e = cc

none_back : {V : Type 0} (vs : List V) → None ≡ some_items vs → vs ≡ []
none_back [] e = refl
none_back (v ∷ vs) e = absurd (cc)

module _ {K : Type 0} (cmp : K → K → Ordering) where
  -- P holds of the first key, and no key is less than the one before it
  abbrev pub Low : {V : Type 0} → (K → Type 0) → List (K × V) → Type 0
  Low P [] = ⊤
  Low P (x ∷ xs) = P x.0 × Low (λ k. is_lt (cmp k x.0) ≡ false) xs

  low_after : {V : Type 0} (x : K × V) (xs : List (K × V)) → Ordered cmp (x ∷ xs) → Low (λ k. is_lt (cmp k x.0) ≡ false) xs
  unfolding Ordered
  low_after x [] h = tt
  low_after x (y ∷ ys) h = (h 0 x (omega arith) (omega arith), low_after y ys (λ k d l b. let e : suc k + 1 ≡ suc (k + 1) = omega arith in rw e at (h (suc k) d (omega arith) (omega (arith, b)))))

  pub low : {V : Type 0} (xs : List (K × V)) → Ordered cmp xs → Low (λ k. ⊤) xs
  low [] h = tt
  low (x ∷ xs) h = (tt, low_after x xs h)

  own_key : {V : Type 0} (xs : List (K × V)) (k : ℕ) (d : K × V) → k < length xs → Contains (keys_of xs) (get_or xs k d).0
  own_key xs k d h =
      let l : k < length (keys_of xs) = rw length-map h in
      subst (Contains (keys_of xs)) (get_or-map (λ e. e.0) xs k d) (Contains-get_or (keys_of xs) k d.0 l)

  add_keys : {V : Type 0} (R : K → Type 0) (x : K × V) (gs : List (K × List V)) → R x.0 → All (λ g. R g.0) gs → All (λ g. R g.0) (add_pair cmp x gs)
  add_keys R x [] r h = All-cons (λ g. R g.0) (x.0, x.1 ∷ []) [] r (All-nil (λ g. R g.0))
  add_keys R x (g ∷ gs) r h =
      by_test (is_eq (cmp x.0 g.0))
      (λ e. rw e (All-cons (λ f. R f.0) (x.0, x.1 ∷ g.1) gs r (All-tail (λ f. R f.0) g gs h)))
      (λ e. rw e (All-cons (λ f. R f.0) (x.0, x.1 ∷ []) (g ∷ gs) r h))

  groups_keys : {V : Type 0} (R : K → Type 0) (xs : List (K × V)) → All (λ x. R x.0) xs → All (λ g. R g.0) (key_runs cmp xs)
  groups_keys R [] h = All-nil (λ g. R g.0)
  groups_keys R (x ∷ xs) h = add_keys R x (key_runs cmp xs) (All-head (λ y. R y.0) x xs h) (groups_keys R xs (All-tail (λ y. R y.0) x xs h))

  module _ (o : IsTotalOrder cmp) where
    less_on : (j k : K) → is_lt (cmp k j) ≡ false → is_eq (cmp j k) ≡ false → cmp j k ≡ Less
    less_on j k l n = only_Less (cmp j k) (cmp k j) (o.antisymm j k) l n

    add_up : {V : Type 0} (P : K → Type 0) (x : K × V) (gs : List (K × List V)) → P x.0 → Up cmp (λ k. is_lt (cmp k x.0) ≡ false) gs → Up cmp P (add_pair cmp x gs)
    add_up P x [] p h = (p, tt)
    add_up P x (g ∷ gs) p h =
        by_test (is_eq (cmp x.0 g.0))
        (λ e. rw e (p, alike_on cmp o x.0 g.0 (is_Equal (cmp x.0 g.0) e) gs h.1))
        (λ e. rw e (p, (less_on x.0 g.0 h.0 e, h.1)))

    groups_up : {V : Type 0} (P : K → Type 0) (xs : List (K × V)) → Low P xs → Up cmp P (key_runs cmp xs)
    groups_up P [] h = tt
    groups_up P (x ∷ xs) h = add_up P x (key_runs cmp xs) h.0 (groups_up (λ k. is_lt (cmp k x.0) ≡ false) xs h.1)

    -- what groups have under a key, after one more pair is put before them
    add_here : {V : Type 0} (k : K) (x : K × V) (gs : List (K × List V)) (vs : List V) → is_eq (cmp k x.0) ≡ true → Up cmp (λ j. is_lt (cmp j x.0) ≡ false) gs
        → value_under cmp gs k ≡ some_items vs → value_under cmp (add_pair cmp x gs) k ≡ Some (x.1 ∷ vs)
    add_here k x [] vs t h e = rw (t, none_back vs e) refl
    add_here k x (g ∷ gs) vs t h e =
        let alike : cmp k g.0 ≡ cmp x.0 g.0 = o.congr k x.0 g.0 (is_Equal (cmp k x.0) t) in
        by_test (is_eq (cmp x.0 g.0))
        (λ s. let same : vs ≡ g.1 = some_back vs g.1 (sym (rw (alike, s) at e)) in rw (s, t, same) refl)
        (λ s.
        let none : value_under cmp (g ∷ gs) k ≡ None = absent_alike cmp o k x.0 t (g ∷ gs) (less_on x.0 g.0 h.0 s, h.1) in
        rw (s, t, none_back vs (sym none ∙ e)) refl)

    add_there : {V : Type 0} (k : K) (x : K × V) (gs : List (K × List V)) → is_eq (cmp k x.0) ≡ false → value_under cmp (add_pair cmp x gs) k ≡ value_under cmp gs k
    add_there k x [] f = rw f refl
    add_there k x (g ∷ gs) f =
        by_test (is_eq (cmp x.0 g.0))
        (λ s. let alike : cmp k x.0 ≡ cmp k g.0 = alike_right o x.0 g.0 k (is_Equal (cmp x.0 g.0) s) in rw (s, f, ← alike, f) refl)
        (λ s. rw (s, f) refl)

    groups_values : {V : Type 0} (P : K → Type 0) (xs : List (K × V)) → Low P xs → (k : K) → value_under cmp (key_runs cmp xs) k ≡ group_under cmp xs k
    groups_values P [] h k = refl
    groups_values P (x ∷ xs) h k =
        let Q : K → Type 0 = λ j. is_lt (cmp j x.0) ≡ false in
        by_test (is_eq (cmp k x.0))
        (λ t. add_here k x (key_runs cmp xs) (values_of (filter (λ y. is_eq (cmp k y.0)) xs)) t (groups_up Q xs h.1) (groups_values Q xs h.1 k) ∙ sym (rw t refl))
        (λ f. add_there k x (key_runs cmp xs) f ∙ groups_values Q xs h.1 k ∙ sym (rw f refl))

    AreGroups-low : {V : Type 0} (p : List (K × V)) → Low (λ k. ⊤) p → AreGroups cmp p (key_runs cmp p)
    AreGroups-low p h = record {
      rises = rising cmp (λ k. ⊤) (key_runs cmp p) (groups_up (λ k. ⊤) p h);
      values = groups_values (λ k. ⊤) p h;
      keys = groups_keys (Contains (keys_of p)) p (own_key p);
    }

    pub AreGroups-groups : {V : Type 0} (p : List (K × V)) → Ordered cmp p → AreGroups cmp p (key_runs cmp p)
    AreGroups-groups p h = AreGroups-low p (low p h)

    -- the same with the values read in another way
    low_read : {V W : Type 0} (f : K × V → W) (P : K → Type 0) (xs : List (K × V)) → Low P xs → Low P (map (λ x. (x.0, f x)) xs)
    low_read f P [] h = tt
    low_read f P (x ∷ xs) h = (h.0, low_read f (λ k. is_lt (cmp k x.0) ≡ false) xs h.1)

    pub AreGroups-read : {V W : Type 0} (f : K × V → W) (p : List (K × V)) → Ordered cmp p → AreGroups cmp (map (λ x. (x.0, f x)) p) (key_runs cmp (map (λ x. (x.0, f x)) p))
    AreGroups-read f p h = AreGroups-low (map (λ x. (x.0, f x)) p) (low_read f (λ k. ⊤) p (low p h))

    same_values : {V : Type 0} (j k : K) → cmp j k ≡ Equal → (xs : List (K × V)) → run_values cmp j xs ≡ run_values cmp k xs
    same_values j k e [] = refl
    same_values j k e (x ∷ xs) = rw (o.congr j k x.0 e, same_values j k e xs) refl

    same_rest : {V : Type 0} (j k : K) → cmp j k ≡ Equal → (xs : List (K × V)) → run_rest cmp j xs ≡ run_rest cmp k xs
    same_rest j k e [] = refl
    same_rest j k e (x ∷ xs) = rw (o.congr j k x.0 e, same_rest j k e xs) refl

    -- a run at the front is the first group
    pub run_on : {V : Type 0} (x : K × V) (xs : List (K × V)) → key_runs cmp (x ∷ xs) ≡ (x.0, x.1 ∷ run_values cmp x.0 xs) ∷ key_runs cmp (run_rest cmp x.0 xs)
    run_on x [] = refl
    run_on x (y ∷ ys) =
        by_test (is_eq (cmp x.0 y.0))
        (λ e. let s = is_Equal (cmp x.0 y.0) e in rw (run_on y ys, e, same_values x.0 y.0 s ys, same_rest x.0 y.0 s ys) refl)
        (λ e. rw e (ap (add_pair cmp x) (run_on y ys) ∙ rw e (ap (λ gs. (x.0, x.1 ∷ []) ∷ gs) (sym (run_on y ys)))))

  run_shorter : {V : Type 0} (k : K) (xs : List (K × V)) → length (run_rest cmp k xs) ≤ length xs
  run_shorter k [] = omega arith
  run_shorter k (x ∷ xs) = by_test (is_eq (cmp k x.0)) (λ e. rw e (omega (arith, run_shorter k xs))) (λ e. rw e (omega arith))

  -- a turn of the loop: the first pair and its run leave the queue, and become the last group
  module _ (o : IsTotalOrder cmp) {V G : Type 0} (view : G → K × List V) (gs hs : List G) (g : G) (x : K × V) (xs ys zs : List (K × V)) (whole : List (K × List V)) where
    pub more_groups : ys ≡ x ∷ xs → zs ≡ run_rest cmp x.0 xs → hs ≡ gs ++ g ∷ [] → view g ≡ (x.0, x.1 ∷ run_values cmp x.0 xs) → map view gs ++ key_runs cmp ys ≡ whole → map view hs ++ key_runs cmp zs ≡ whole
    more_groups e f h v w = rw (h, f, map-append, append_assoc, v) (ap (λ ks. map view gs ++ ks) (sym (run_on o x xs) ∙ ap (key_runs cmp) (sym e)) ∙ w)

  pub fewer_left : {V : Type 0} (x : K × V) (xs ys zs : List (K × V)) → ys ≡ x ∷ xs → zs ≡ run_rest cmp x.0 xs → length zs < length ys
  fewer_left x xs ys zs e f = rw (e, f) (omega (arith, run_shorter x.0 xs))

  raw_after : {V W : Type 0} (f : V → W) (P : K → Type 0) (xs : List (K × V)) → Up cmp P (map (λ x. (x.0, f x.1)) xs) → Up cmp P xs
  raw_after f P [] h = tt
  raw_after f P (x ∷ xs) h = (h.0, raw_after f (λ k. cmp x.0 k ≡ Less) xs h.1)

  shown_after : {V W : Type 0} (f : V → W) (P : K → Type 0) (xs : List (K × V)) → Up cmp P xs → Up cmp P (map (λ x. (x.0, f x.1)) xs)
  shown_after f P [] h = tt
  shown_after f P (x ∷ xs) h = (h.0, shown_after f (λ k. cmp x.0 k ≡ Less) xs h.1)

  -- a list strictly increases where it does with its values read in another way
  pub rises_raw : {V W : Type 0} (f : V → W) (xs : List (K × V)) → Rising cmp (map (λ x. (x.0, f x.1)) xs) → Rising cmp xs
  rises_raw f xs h = rising cmp (λ k. ⊤) xs (raw_after f (λ k. ⊤) xs (up cmp (map (λ x. (x.0, f x.1)) xs) h))

  value_shown : {V W : Type 0} (f : V → W) (k : K) (xs : List (K × V)) → value_under cmp (map (λ x. (x.0, f x.1)) xs) k ≡ option_map f (value_under cmp xs k)
  value_shown f k [] = refl
  value_shown f k (x ∷ xs) = by_test (is_eq (cmp k x.0)) (λ e. rw e refl) (λ e. rw e (value_shown f k xs))

  places_shown : {L R T U : Type 0} (f : L → T) (g : R → U) (m : Option L) (n : Option R) → option_map (map_places f g) (from_places m n) ≡ from_places (option_map f m) (option_map g n)
  places_shown f g None None = refl
  places_shown f g None (Some y) = refl
  places_shown f g (Some x) None = refl
  places_shown f g (Some x) (Some y) = refl

  keys_shown : {V W : Type 0} (f : V → W) (xs : List (K × V)) → keys_of (map (λ x. (x.0, f x.1)) xs) ≡ keys_of xs
  keys_shown f [] = refl
  keys_shown f (x ∷ xs) = ap (λ ks. x.0 ∷ ks) (keys_shown f xs)

  all_keys : {V W : Type 0} (f : V → W) (R : K → Type 0) (gs : List (K × V)) → All (λ (g : K × W). R g.0) (map (λ x. (x.0, f x.1)) gs) → All R (keys_of gs)
  all_keys f R [] h = All-nil R
  all_keys f R (x ∷ gs) h =
      All-cons R x.0 (keys_of gs) (All-head (λ g. R g.0) (x.0, f x.1) (map (λ y. (y.0, f y.1)) gs) h)
      (all_keys f R gs (All-tail (λ g. R g.0) (x.0, f x.1) (map (λ y. (y.0, f y.1)) gs) h))

  -- a key of the groups is one of the table
  own_group : {V W G : Type 0} (f : V → G) (p : List (K × W)) (gs : List (K × V)) (k : K) → All (λ (g : K × G). Contains (keys_of p) g.0) (map (λ x. (x.0, f x.1)) gs) → Contains (keys_of gs) k → Contains (keys_of p) k
  own_group f p gs k h c = All-contains (Contains (keys_of p)) (keys_of gs) k (all_keys f (Contains (keys_of p)) gs h) c

  -- the join of the groups of two tables is the group join of the tables
  pub group_join_is : {A B V W : Type 0} (f : V → List A) (g : W → List B) (p : List (K × A)) (q : List (K × B)) (gs : List (K × V)) (hs : List (K × W)) (zs : List (K × EitherOrBoth V W))
      → AreGroups cmp p (map (λ x. (x.0, f x.1)) gs) → AreGroups cmp q (map (λ x. (x.0, g x.1)) hs) → IsJoin cmp gs hs zs → IsGroupJoin cmp p q (map (λ z. (z.0, map_places f g z.1)) zs)
  group_join_is f g p q gs hs zs l r j = record {
    rises = rising cmp (λ k. ⊤) (map (λ z. (z.0, map_places f g z.1)) zs) (shown_after (map_places f g) (λ k. ⊤) zs (up cmp zs j.rises));
    values = λ k.
        value_shown (map_places f g) k zs ∙ ap (option_map (map_places f g)) (j.values k) ∙ places_shown f g (value_under cmp gs k) (value_under cmp hs k)
        ∙ ap₂ from_places (sym (value_shown f k gs) ∙ l.values k) (sym (value_shown g k hs) ∙ r.values k);
    keys = All-map (λ z. Contains (keys_of p) z.0 ⊎ Contains (keys_of q) z.0) (λ z. (z.0, map_places f g z.1)) zs
        (All-weaker (λ z. Contains (keys_of gs) z.0 ⊎ Contains (keys_of hs) z.0) (λ z. Contains (keys_of p) z.0 ⊎ Contains (keys_of q) z.0)
        (λ z e. elim e [ inl a ↦ inl (own_group f p gs z.0 l.keys a) | inr b ↦ inr (own_group g q hs z.0 r.keys b) ]) zs j.keys);
  }

pub ordered_law : {K : Type 0} (cmp : K → K → Ordering) → IsTotalOrder cmp → (V : Type 0) → OrderedLaw cmp V
unfolding Ordered Rising
ordered_law cmp o V xs h k d l b = rw (o.antisymm _ _, h k d b) refl

not_less : (b : Bool) → true ≡ not b → b ≡ false
not_less true e = absurd (true≢false e)
not_less false e = refl

was_less : (b : Bool) → false ≡ not b → b ≡ true
was_less true e = refl
was_less false e = absurd (true≢false (sym e))

-- what the test of each pair of neighbours says of the table
pub ordered_answer : {K V : Type 0} (cmp : K → K → Ordering) (xs : List (K × V)) (r : Bool) → IsAllAdjacentAnswer (λ x y b. b ≡ not (is_lt (cmp y.0 x.0))) xs r → IsTrue r ↔ Ordered cmp xs
unfolding Ordered
ordered_answer cmp xs true h = (λ t k d l b. not_less _ (h k d b), λ up. refl)
ordered_answer cmp [] false h = absurd (omega (arith, h.1))
ordered_answer cmp (x ∷ xs) false h = (λ t. absurd (true≢false (sym t)), λ up. absurd (true≢false (sym (was_less _ (h.2 x)) ∙ up h.0 x (omega arith) h.1)))

-- that neither pair is less is that their keys are equal
ties_are : (r s : Ordering) → s ≡ ordering_reverse r → (not (is_lt r) && not (is_lt s)) ≡ is_eq r
ties_are Less s e = refl
ties_are Equal s e = rw e refl
ties_are Greater s e = rw e refl

no_items : {X : Type 0} (ys : List X) → length ys ≡ 0 → ys ≡ []
no_items [] e = refl
no_items (y ∷ ys) e = absurd (omega (arith, e))

module _ {K : Type 0} (cmp : K → K → Ordering) (o : IsTotalOrder cmp) where
  abbrev pub below : {V : Type 0} → K × V → K × V → Bool
  below x y = is_lt (cmp x.0 y.0)

  pub ordered_sorted : {V : Type 0} (xs : List (K × V)) → IsSortedBy below xs → Ordered cmp xs
  unfolding Ordered
  ordered_sorted xs h = h

  stable_values : {V : Type 0} (xs ys : List (K × V)) → length ys ≡ length xs → IsStableBy below xs ys → (k : K) → group_under cmp ys k ≡ group_under cmp xs k
  stable_values [] ys e h k = rw (no_items ys e) refl
  stable_values {V = V} (x ∷ xs) ys e h k =
      let d : K × V = (k, x.1) in
      let agree : (y : K × V) → ties below d y ≡ is_eq (cmp k y.0) = λ y. ties_are (cmp k y.0) (cmp y.0 k) (o.antisymm y.0 k) in
      let same : filter (λ y. is_eq (cmp k y.0)) ys ≡ filter (λ y. is_eq (cmp k y.0)) (x ∷ xs) =
      sym (filter_agree (ties below d) (λ y. is_eq (cmp k y.0)) agree ys) ∙ h d ∙ filter_agree (ties below d) (λ y. is_eq (cmp k y.0)) agree (x ∷ xs) in
      ap (λ l. some_items (values_of l)) same

  -- a stable sort leaves what a table has under each key
  pub HasGroupsOf-sorted : {V : Type 0} (xs ys : List (K × V)) → IsPermutation xs ys → IsStableBy below xs ys → HasGroupsOf cmp xs ys
  HasGroupsOf-sorted xs ys moved h = record {
    values = stable_values xs ys (length_permutation xs ys moved) h;
    keys = λ k c. Contains-permutation (keys_of ys) (keys_of xs) k (IsPermutation-sym (keys_of xs) (keys_of ys) (IsPermutation-map (λ x. x.0) xs ys moved)) c;
  }

  -- so the group join of the sorted tables is that of the tables
  pub regrouped : {A B : Type 0} (p p' : List (K × A)) (q q' : List (K × B)) (zs : List (K × EitherOrBoth (List A) (List B))) → HasGroupsOf cmp p p' → HasGroupsOf cmp q q' → IsGroupJoin cmp p' q' zs → IsGroupJoin cmp p q zs
  regrouped p p' q q' zs l r h = record {
    rises = h.rises;
    values = λ k. h.values k ∙ ap₂ from_places (l.values k) (r.values k);
    keys = All-weaker (λ z. Contains (keys_of p') z.0 ⊎ Contains (keys_of q') z.0) (λ z. Contains (keys_of p) z.0 ⊎ Contains (keys_of q) z.0)
        (λ z e. elim e [ inl a ↦ inl (l.keys z.0 a) | inr b ↦ inr (r.keys z.0 b) ]) zs h.keys;
  }
